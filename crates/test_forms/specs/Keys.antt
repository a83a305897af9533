-- A list of keys, none twice.
use Rattle.std.specs.Prelude.{ℕ, Bool, cond, ◌==◌, List, [], ◌∷◌, ◌++◌}
use Rattle.std.specs.List.{list_any}

-- the list has the key
abbrev pub has_key : List ℕ → ℕ → Bool
has_key keys key = list_any (λ y. y == key) keys

-- the list with the key at its end, unless the key is there already
abbrev pub learned : List ℕ → ℕ → List ℕ
learned keys key = cond (has_key keys key) keys (keys ++ key ∷ [])
