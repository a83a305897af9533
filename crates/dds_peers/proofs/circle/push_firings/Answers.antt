use Rattle.dds_peers.specs.declared.circle.Step.TheVariants.{Fire}
use Rattle.dds_peers.specs.Steady.{is_fired}
use Rattle.dds_peers.proofs.CircleLists.{one_kept, one_left}
use Rattle.dds_peers.proofs.circle.push_firings.Goals as goal
use Rattle.dds_peers.proofs.circle.push_firings.Goals.{then-is_fired+in_ok-push, else-is_fired}

pub loop-rule-preserved : goal.loop-rule-preserved
loop-rule-preserved c = elim c.if-is_fired.branch [
  | then-is_fired+in_ok-push w ↦ one_kept (is_fired c.args.lists.now c.args.app) (λ u. Fire u) c.args.circle.now.items c.loop-rule.circle.items c.if-is_fired.circle.items c.loop-rule.rule (cc) c.loop-rule.invariant (cc w.in_ok-push.ensures.items)
  | else-is_fired w ↦ one_left (is_fired c.args.lists.now c.args.app) (λ u. Fire u) c.args.circle.now.items c.loop-rule.circle.items c.if-is_fired.circle.items c.loop-rule.rule (cc) c.loop-rule.invariant (cc)
]
