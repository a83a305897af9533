-- Tallies of entries by endpoint and key.
use Rattle.std.specs.Prelude.{◌≡◌, ℕ, ◌+◌, ◌*◌, ◌<◌, ◌==◌, ◌&&◌, if◌then◌else◌, Bool, List, slice_index}
use Rattle.dds_base.specs.Grid.{most_endpoints, most_keys}
use Rattle.dds_conform.specs.declared.actions.Entry.{Entry}
use Rattle.dds_conform.specs.Breaches.{count_in}

-- the number at an endpoint and key
abbrev pub tally_at : List ℕ → ℕ → ℕ → ℕ
tally_at t e k = slice_index t (e * most_keys + k)

-- one more at an endpoint and key, and elsewhere the same
abbrev pub IsOneMore : List ℕ → List ℕ → ℕ → ℕ → Type 0
IsOneMore old new e l = (i k : ℕ) → i < most_endpoints → k < most_keys → tally_at new i k ≡ tally_at old i k + (if (e == i) && (l == k) then 1 else 0)

-- the row of an endpoint has for each key how many of the first n entries pass the key's test
abbrev pub IsRowOf : ℕ → (ℕ → Entry → Bool) → ℕ → List Entry → List ℕ → Type 0
IsRowOf i p n es t = (k : ℕ) → k < most_keys → tally_at t i k ≡ count_in (p k) n es
