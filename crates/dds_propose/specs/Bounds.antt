-- The bound that a row shows.
use Rattle.std.specs.Prelude.{ℕ, zero, suc, ◌/◌, ◌==◌, Bool, nat_le, min, Option, Some, None, unwrap_or, if◌then◌else◌}
use Rattle.std.specs.Option.{option_map_or}
use Rattle.dds_match.specs.Network.{Network}
use Rattle.dds_runs.specs.Accepted.{Row, budget}
use Rattle.dds_propose.specs.declared.targets.Target.{Target}
use Rattle.dds_propose.specs.Targets.{counts, reader_of}

-- the least weight of the keys below n that count, none where none of them does
unfoldable pub least_counted : (ℕ → Bool) → (ℕ → ℕ) → ℕ → Option ℕ
least_counted counted weight zero = None
least_counted counted weight (suc n) =
    if counted n then Some (option_map_or (λ other. min other (weight n)) (least_counted counted weight n) (weight n)) else least_counted counted weight n

-- the least weight of a sample that counts for the target, 0 where none counts
abbrev pub least_sample : Network → Target → Row → ℕ
least_sample net target row = unwrap_or (least_counted (counts net target) (row.samples (reader_of target)) net.keys) 0

-- a quotient rounded down, none where it is above 4,294,967,295 or the divisor is 0
abbrev pub quotient : ℕ → ℕ → Option ℕ
quotient n d = if d == 0 then None else if nat_le (n / d) 4294967295 then Some (n / d) else None

-- at most so many samples count for the target at once: the budget of the row, divided by the least weight of a sample that counts
abbrev pub bound : Network → Target → Row → Option ℕ
bound net target row = quotient (budget net row) (least_sample net target row)
