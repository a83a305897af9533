-- Which depths of writers with KEEP_LAST a bound has to be within.
use Rattle.std.specs.Prelude.{ℕ, ◌||◌, Bool, Some}
use Rattle.dds_match.specs.Network.{Network}
use Rattle.dds_check.specs.Limits.{is_finite_within, is_within}

-- whatever bounds there are, a writer of this depth drops no sample of the key that the reader lacks: by its cap or its lag there, or since it never writes more
abbrev pub is_deep_anyway : Network → (w r k depth : ℕ) → Bool
is_deep_anyway net w r k depth =
    is_within (net.cap w r k) (Some depth) || is_within (net.lag w r k) (Some depth) || is_finite_within net w k (Some depth)
