use Rattle.std.proofs.Common.{◌≡◌, false}
use Rattle.dds_base.specs.Sums.{any_below}
use Rattle.dds_match.specs.Network.{reach}
use Rattle.dds_match.specs.Plan.{network_of}
use Rattle.dds_propose.proofs.targets.is_reached.Given as goal

-- no key so far can reach the reader
abbrev pub invariant-loop-k : goal.invariant-loop-k
invariant-loop-k l = any_below l.k (reach (network_of l.plan) l.reader) ≡ false
