use Rattle.std.proofs.Common.{◌≡◌, ap, sym, ◌∙◌}
use Rattle.dds_lists.specs.WellFormed.{filter_at}
use Rattle.dds_lists.specs.Lists.{has}
use Rattle.dds_peers.specs.declared.circle.Step.TheVariants.{Take}
use Rattle.dds_peers.proofs.CircleLists.{one_kept, one_left, filter_known}
use Rattle.dds_peers.proofs.circle.push_takes_of.Goals as goal
use Rattle.dds_peers.proofs.circle.push_takes_of.Goals.{then-contains+in_ok-push, else-contains}

pub loop-key-preserved : goal.loop-key-preserved
loop-key-preserved c =
    let test = has (filter_at c.args.lists.now.readers c.args.reader) in
    let known : filter_at c.args.lists.now.readers c.args.reader ≡ c.deref.result.now = filter_known c.args.lists.now c.args.reader _ c.reader-heard.ensures ∙ sym c.deref.ensures.value in
    let tested : test c.loop-key.key ≡ c.contains.result = ap (λ ks. has ks c.loop-key.key) known ∙ (ap (has c.deref.result.now) (sym c.new-key.ensures) ∙ sym c.contains.ensures.value) in
    elim c.if-contains.branch [
      | then-contains+in_ok-push w ↦ one_kept test (λ k. Take c.args.reader k) c.args.circle.now.items c.loop-key.circle.items c.if-contains.circle.items c.loop-key.key (cc) c.loop-key.invariant (cc w.in_ok-push.ensures.items)
      | else-contains w ↦ one_left test (λ k. Take c.args.reader k) c.args.circle.now.items c.loop-key.circle.items c.if-contains.circle.items c.loop-key.key (cc) c.loop-key.invariant (cc)
    ]
