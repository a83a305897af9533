use Rattle.std.proofs.Common.{refl, sym, ◌∙◌, arith}
use Rattle.dds_check.proofs.FirstBefore.{none_at_start, none_more, found_first, none_found}
use Rattle.dds_check.proofs.shown.first_unshown_by.Goals as goal

pub loop-i-init : goal.loop-i-init
loop-i-init c = none_at_start _ _

pub returns-then-is_unshown_by : goal.returns-then-is_unshown_by
returns-then-is_unshown_by c = found_first _ _ _ c.loop-i.i c.bound_at.result.now c.loop-i-test.true c.loop-i.invariant c.bound_at.ensures (sym c.is_unshown_by.ensures ∙ c.if-is_unshown_by.true)

pub loop-i-preserved : goal.loop-i-preserved
loop-i-preserved c = none_more _ _ c.loop-i.i c.bound_at.result.now c.loop-i.invariant c.bound_at.ensures (sym c.is_unshown_by.ensures ∙ c.if-is_unshown_by.false)

pub returns : goal.returns
returns c = none_found _ _ _ c.loop-i.i _ (omega arith) refl c.loop-i.invariant
