use Rattle.std.proofs.Common.{◌≡◌, ap, sym, ◌∙◌, ◌++◌, ◌∷◌, []}
use Rattle.dds_lists.specs.Lists.{Lists}
use Rattle.dds_peers.specs.declared.circle.Step.{Step}
use Rattle.dds_peers.specs.Steady.{is_written, write_step}
use Rattle.dds_peers.proofs.CircleLists.{one_kept, one_left}
use Rattle.dds_peers.proofs.circle.push_writes_of.Goals as goal
use Rattle.dds_peers.proofs.circle.push_writes_of.Goals.{then-is_written+in_ok-push, else-is_written}

pub loop-key-preserved : goal.loop-key-preserved
loop-key-preserved c =
    let test = is_written c.args.plan.now c.args.app c.args.writer in
    let tested : test c.loop-key.key ≡ c.is_written.result = ap (λ (d : Lists). is_written d c.args.app c.args.writer c.loop-key.key) (sym c.lists-lists.ensures.value) ∙ (ap (is_written c.lists-lists.result.now c.args.app c.args.writer) (sym c.new-key.ensures) ∙ sym c.is_written.ensures) in
    elim c.if-is_written.branch [
      | then-is_written+in_ok-push w ↦ one_kept test (write_step c.args.plan.now c.args.writer) c.args.circle.now.items c.loop-key.circle.items c.if-is_written.circle.items c.loop-key.key (tested ∙ w.if-is_written.true) c.loop-key.invariant (ap (λ v. v.items) w.circle-is ∙ (w.in_ok-push.ensures.items ∙ ap (λ (s : Step). c.loop-key.circle.items ++ s ∷ []) (w.write_step.ensures ∙ ap (write_step c.args.plan.now c.args.writer) c.new-key.ensures)))
      | else-is_written w ↦ one_left test (write_step c.args.plan.now c.args.writer) c.args.circle.now.items c.loop-key.circle.items c.if-is_written.circle.items c.loop-key.key (tested ∙ w.if-is_written.false) c.loop-key.invariant (cc)
    ]
