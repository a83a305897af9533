use Rattle.std.proofs.Common.{◌≡◌, ap, sym, ◌∙◌}
use Rattle.dds_lists.specs.Lists.{Lists, has, writers_at}
use Rattle.dds_peers.specs.Steady.{writes_of}
use Rattle.dds_peers.proofs.CircleLists.{many_kept, many_left, writers_known}
use Rattle.dds_peers.proofs.circle.push_writes.Goals as goal
use Rattle.dds_peers.proofs.circle.push_writes.Goals.{then-contains+in_ok-push_writes_of, else-contains}

pub loop-writer-preserved : goal.loop-writer-preserved
loop-writer-preserved c =
    let test = has (writers_at c.args.plan.now.applications c.args.app) in
    let known : writers_at c.args.plan.now.applications c.args.app ≡ c.deref.result.now = ap (λ (d : Lists). writers_at d.applications c.args.app) (sym c.lists-lists.ensures.value) ∙ (writers_known c.lists-lists.result.now c.args.app _ c.application.ensures ∙ sym c.deref.ensures.value) in
    let tested : test c.loop-writer.writer ≡ c.contains.result = ap (λ ks. has ks c.loop-writer.writer) known ∙ (ap (has c.deref.result.now) (sym c.new-writer.ensures) ∙ sym c.contains.ensures.value) in
    elim c.if-contains.branch [
      | then-contains+in_ok-push_writes_of w ↦ many_kept test (writes_of c.args.plan.now c.args.app) c.args.circle.now.items c.loop-writer.circle.items c.if-contains.circle.items c.loop-writer.writer (cc) c.loop-writer.invariant (cc w.in_ok-push_writes_of.ensures)
      | else-contains w ↦ many_left test (writes_of c.args.plan.now c.args.app) c.args.circle.now.items c.loop-writer.circle.items c.if-contains.circle.items c.loop-writer.writer (cc) c.loop-writer.invariant (cc)
    ]
