use Rattle.std.proofs.Common.{◌≡◌, false, is_some}
use Rattle.dds_base.specs.Sums.{any_below}
use Rattle.dds_match.specs.Paces.{taken_span}
use Rattle.dds_propose.proofs.proposer.has_spans.Given as goal

-- of no reader so far
abbrev pub invariant-loop-r : goal.invariant-loop-r
invariant-loop-r l = any_below l.r (λ r. is_some (taken_span l.plan r)) ≡ false
