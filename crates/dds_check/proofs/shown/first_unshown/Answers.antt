use Rattle.std.proofs.Common.{arith}
use Rattle.std.proofs.lemmas.List.{length-map}
use Rattle.dds_match.specs.Plan.{network_of}
use Rattle.dds_weights.specs.Views.{row_view}
use Rattle.dds_check.proofs.Unshown.{first_until_start, first_until_more, first_until_all}
use Rattle.dds_check.proofs.shown.first_unshown.Goals as goal

pub loop-n-init : goal.loop-n-init
loop-n-init c = first_until_start (network_of c.args.plan.now) _ _ _ _ c.first_without_row-end.ensures

pub loop-n-preserved : goal.loop-n-preserved
loop-n-preserved c = first_until_more (network_of c.args.plan.now) _ _ _ c.loop-n.end c.loop-n.n _ _ c.tables_of-weights.ensures c.loop-n.invariant c.first_unshown_by-end.ensures

pub returns : goal.returns
returns c =
    let same = length-map c.args.certificate.now.rows.items row_view in
    first_until_all (network_of c.args.plan.now) _ _ _ _ c.loop-n.n (omega arith) c.loop-n.invariant
