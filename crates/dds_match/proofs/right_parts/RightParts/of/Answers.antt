use Rattle.std.proofs.Common.{◌∙◌, arith, refl, subst, length-set}
use Rattle.dds_match.proofs.Parts.{StandUpTo, stand_first, stand_more, stand_all}
use Rattle.dds_match.proofs.right_parts.RightParts.of.Goals as goal

pub loop-at-init : goal.loop-at-init
loop-at-init c = (refl, stand_first c.args.name.now c.requires)

pub loop-at-preserved : goal.loop-at-preserved
loop-at-preserved c = (
  length-set c.loop-at.beginnings _ _ ∙ c.loop-at.invariant.0,
  stand_more c.args.name.now c.loop-at.beginnings c.loop-at.at _ c.loop-at.invariant.0 c.requires c.loop-at-test.true (c.type_inv.name c.loop-at.at).fits refl c.loop-at.invariant.1,
)

pub invariant_of-result-clause-beginnings_are : goal.invariant_of-result-clause-beginnings_are
invariant_of-result-clause-beginnings_are c = stand_all c.args.name.now c.loop-at.beginnings (subst (StandUpTo c.args.name.now c.loop-at.beginnings) (omega (arith, c.loop-at.auto.at-end, c.loop-at-test.false)) c.loop-at.invariant.1)
