-- Numbers 10 and 11: exactly the intended pairs match.
use Rattle.std.specs.Prelude.{ℕ, ◌&&◌, not, Option}
use Rattle.dds_match.specs.Network.{Network}
use Rattle.dds_check.specs.declared.verdict.No.{No}
use Rattle.dds_check.specs.declared.verdict.Number.TheVariants.{IntendedNotMatched, UnintendedMatch}
use Rattle.dds_check.specs.declared.verdict.Subject.TheVariants.{Pair}
use Rattle.dds_runs.specs.First.{◌orElse◌, first_below}
use Rattle.dds_check.specs.Verdict.{fails}

-- an intended pair doesn't match
abbrev pub not_matched : Network → ℕ → ℕ → Option No
not_matched net w r = fails (net.intended w r && not (net.matched w r)) IntendedNotMatched (Pair w r)

-- a pair that matches is not intended
abbrev pub not_intended : Network → ℕ → ℕ → Option No
not_intended net w r = fails (net.matched w r && not (net.intended w r)) UnintendedMatch (Pair w r)

-- the first refusal of a pair, by writer and then by reader
abbrev pub first_pair : Network → (ℕ → ℕ → Option No) → Option No
first_pair net f = first_below net.writers (λ w. first_below net.readers (f w))

-- the first refusal of these numbers
unfoldable pub pairs_no : Network → Option No
pairs_no net = first_pair net (not_matched net) orElse first_pair net (not_intended net)
