use Rattle.std.proofs.Common.{ap, ◌∙◌}
use Rattle.dds_guard.specs.Guard.{rule_state}
use Rattle.dds_guard.proofs.Growing.{one_more}
use Rattle.dds_guard.proofs.rules.rules_of.Goals as goal

pub loop-u-preserved : goal.loop-u-preserved
loop-u-preserved c = one_more (rule_state c.args.lists.now c.args.app) c.loop-u.rules.items _ c.loop-u.u _ c.loop-u.invariant (c.in_ok-of.ensures ∙ ap (rule_state c.args.lists.now c.args.app) c.new.ensures) c.in_ok-push.ensures.items
