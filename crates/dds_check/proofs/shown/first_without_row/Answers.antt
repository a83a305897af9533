use Rattle.std.proofs.Common.{arith}
use Rattle.std.proofs.lemmas.Bool.Decides.{nat_tests}
use Rattle.std.proofs.lemmas.List.{length-map}
use Rattle.dds_weights.specs.Views.{row_view}
use Rattle.dds_check.proofs.FirstBefore.{none_at_start, none_more, found_first, none_found}
use Rattle.dds_check.proofs.shown.first_without_row.Goals as goal

pub loop-i-init : goal.loop-i-init
loop-i-init c = none_at_start _ _

pub returns-then-bound_at-len : goal.returns-then-bound_at-len
returns-then-bound_at-len c =
    let same = length-map c.args.certificate.now.rows.items row_view in
    found_first _ _ _ c.loop-i.i c.bound_at.result.now (omega arith) c.loop-i.invariant c.bound_at.ensures (grind (arith, nat_tests))

pub loop-i-preserved : goal.loop-i-preserved
loop-i-preserved c =
    let same = length-map c.args.certificate.now.rows.items row_view in
    none_more _ _ c.loop-i.i c.bound_at.result.now c.loop-i.invariant c.bound_at.ensures (grind (arith, nat_tests))

pub returns : goal.returns
returns c = none_found _ _ _ c.loop-i.i _ (omega arith) (omega arith) c.loop-i.invariant
