-- The grid of endpoints and keys: how many of each there may be, and how many places that takes.
use Rattle.std.specs.Prelude.{ℕ}

-- writers of a deployment, and readers
abbrev pub most_endpoints : ℕ
most_endpoints = 256

-- keys of a topic
abbrev pub most_keys : ℕ
most_keys = 64

-- places of a table that gives each key of each endpoint one
abbrev pub most_places : ℕ
most_places = 16384
