use Rattle.std.proofs.Common.{◌++◌, ◌∙◌, ap}
use Rattle.dds_match.specs.Plan.{network_of}
use Rattle.dds_search.specs.Sizes.{reader_targets}
use Rattle.dds_search.proofs.Growing.{and_next}
use Rattle.dds_search.proofs.targets.every_target.Goals as goal

pub loop-r-preserved : goal.loop-r-preserved
loop-r-preserved c =
    and_next (reader_targets (network_of c.args.plan.now)) c.loop-r.r c.loop-r.targets.items _ c.loop-r.invariant
    (c.in_ok-extend_from_slice.ensures.items ∙ ap (λ ts. c.loop-r.targets.items ++ ts) (c.deref.ensures.value ∙ rw c.new.ensures at c.in_ok-more.ensures))
