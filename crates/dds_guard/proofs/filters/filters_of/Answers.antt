use Rattle.std.proofs.Common.{ap, ◌∙◌}
use Rattle.dds_guard.specs.Guard.{own_filter}
use Rattle.dds_guard.proofs.Growing.{one_more}
use Rattle.dds_guard.proofs.filters.filters_of.Goals as goal

pub loop-r-preserved : goal.loop-r-preserved
loop-r-preserved c = one_more (own_filter c.args.lists.now c.args.app) c.loop-r.filters.items _ c.loop-r.r _ c.loop-r.invariant (c.in_ok-of.ensures ∙ ap (own_filter c.args.lists.now c.args.app) c.new.ensures) c.in_ok-push.ensures.items
