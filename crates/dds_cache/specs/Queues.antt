-- The samples of a key and a writer in order of number, and that no two stored samples have one writer and one number.
use Rattle.std.specs.Prelude.{◌≡◌, ℕ, ◌≤◌, Option, None, Some, true, is_some}
use Rattle.dds_base.specs.declared.sample.Sample.{Sample}
use Rattle.dds_qos.specs.Samples.{is_same}
use Rattle.dds_cache.specs.Order.{Place, Places, Samples, at, held_at}

-- no two stored samples have one writer and one number
abbrev pub IsApart : Samples → Type 0
IsApart samples = (s t : ℕ) (x y : Sample) → at samples s ≡ Some x → at samples t ≡ Some y → is_same x y ≡ true → s ≡ t

-- the place of the least number of a key and a writer up to a top with a ticket, if there is one
abbrev pub IsFirstQueued : Places → ℕ → ℕ → ℕ → Option (Place × ℕ) → Type 0
IsFirstQueued places key writer top None = (n : ℕ) → n ≤ top → held_at places ((key, writer), n) ≡ None
IsFirstQueued places key writer top (Some found) =
    (found.0.0 ≡ (key, writer)) × (found.0.1 ≤ top) × (is_some (held_at places found.0) ≡ true)
    × ((n : ℕ) → n ≤ top → is_some (held_at places ((key, writer), n)) ≡ true → found.0.1 ≤ n)
