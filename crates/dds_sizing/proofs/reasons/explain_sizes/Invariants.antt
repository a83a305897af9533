use Rattle.dds_sizing.proofs.Explanations.{AreFirst}
use Rattle.dds_sizing.proofs.reasons.explain_sizes.Given as goal

-- the sizes of the targets so far
abbrev pub invariant-loop-target : goal.invariant-loop-target
invariant-loop-target g l = AreFirst l.plan l.target-items l.target-index l.list.items
