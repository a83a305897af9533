use Rattle.std.proofs.Common.{ap, ◌∙◌}
use Rattle.dds_lists.specs.Lists.{keys_at}
use Rattle.dds_guard.proofs.Growing.{one_more}
use Rattle.dds_guard.proofs.names.keys_of.Goals as goal

pub loop-t-preserved : goal.loop-t-preserved
loop-t-preserved c = one_more (keys_at c.args.lists.now.topics) c.loop-t.keys.items _ c.loop-t.t _ c.loop-t.invariant (c.in_ok-of.ensures ∙ c.keys.ensures ∙ ap (keys_at c.args.lists.now.topics) c.new.ensures) c.in_ok-push.ensures.items
