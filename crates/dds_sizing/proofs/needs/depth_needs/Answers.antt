use Rattle.std.proofs.Common.{◌++◌, ◌∙◌, ap}
use Rattle.dds_match.specs.Plan.{network_of}
use Rattle.dds_json.proofs.Documents.{those_more}
use Rattle.dds_sizing.specs.Needs.{writer_needs}
use Rattle.dds_sizing.proofs.needs.depth_needs.Goals as goal

pub loop-w-preserved : goal.loop-w-preserved
loop-w-preserved c =
    those_more (writer_needs (network_of c.args.plan.now) c.args.sizes.now) c.loop-w.w c.loop-w.needs.items _ c.loop-w.invariant
    (c.in_ok-extend_from_slice.ensures.items ∙ ap (λ more. c.loop-w.needs.items ++ more) (c.deref.ensures.value ∙ rw c.new.ensures at c.in_ok-more.ensures))
