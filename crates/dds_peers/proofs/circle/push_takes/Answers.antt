use Rattle.std.proofs.Common.{◌≡◌, ap, sym, ◌∙◌}
use Rattle.dds_lists.specs.Lists.{has, readers_at}
use Rattle.dds_peers.specs.Steady.{takes_of}
use Rattle.dds_peers.proofs.CircleLists.{many_kept, many_left, readers_known}
use Rattle.dds_peers.proofs.circle.push_takes.Goals as goal
use Rattle.dds_peers.proofs.circle.push_takes.Goals.{then-contains+in_ok-push_takes_of, else-contains}

pub loop-reader-preserved : goal.loop-reader-preserved
loop-reader-preserved c =
    let test = has (readers_at c.args.lists.now.applications c.args.app) in
    let known : readers_at c.args.lists.now.applications c.args.app ≡ c.deref.result.now = readers_known c.args.lists.now c.args.app _ c.application.ensures ∙ sym c.deref.ensures.value in
    let tested : test c.loop-reader.reader ≡ c.contains.result = ap (λ ks. has ks c.loop-reader.reader) known ∙ (ap (has c.deref.result.now) (sym c.new-reader.ensures) ∙ sym c.contains.ensures.value) in
    elim c.if-contains.branch [
      | then-contains+in_ok-push_takes_of w ↦ many_kept test (takes_of c.args.lists.now) c.args.circle.now.items c.loop-reader.circle.items c.if-contains.circle.items c.loop-reader.reader (cc) c.loop-reader.invariant (cc w.in_ok-push_takes_of.ensures)
      | else-contains w ↦ many_left test (takes_of c.args.lists.now) c.args.circle.now.items c.loop-reader.circle.items c.if-contains.circle.items c.loop-reader.reader (cc) c.loop-reader.invariant (cc)
    ]
