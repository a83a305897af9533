use Rattle.std.proofs.Common.{◌≡◌, ◌++◌, ap, sym, ◌∙◌, append-nil, arith}
use Rattle.dds_propose.specs.Listing.{entry, entries_of}
use Rattle.dds_propose.specs.Tables.{cell}
use Rattle.dds_propose.proofs.Entries.{and_next, nothing_more, one_more}
use Rattle.dds_propose.proofs.listing.add_weights.Goals as goal
use Rattle.dds_propose.proofs.listing.add_weights.Goals.{then-weight-gt0+in_ok-push, else-weight-gt0}

pub loop-k-init : goal.loop-k-init
unfolding entries_of
loop-k-init g c = sym (append-nil _)

pub loop-k-preserved : goal.loop-k-preserved
unfolding entries_of
loop-k-preserved g c =
    let e = c.args.endpoint in
    let weights = cell c.args.table.now (g.E.Endpoint.number_of e) in
    let k = c.loop-k.k in
    let list = c.loop-k.list.items in
    let weight : c.at-weight.result ≡ weights k = c.at-weight.ensures ∙ ap weights c.new-key.ensures in
    and_next (λ k. entry e k (weights k)) k _ list _ c.loop-k.invariant
    (elim c.if-weight-gt0.branch [
      | then-weight-gt0+in_ok-push w ↦ rw w.list-is (one_more e k _ _ _ list _ c.new-key.ensures weight w.if-weight-gt0.true w.in_ok-push.ensures.items)
      | else-weight-gt0 w ↦ rw w.list-is (nothing_more e k _ _ list weight w.if-weight-gt0.false)
    ])

pub returns : goal.returns
returns g c =
    let all : c.loop-k.k ≡ 64 = omega arith in
    c.loop-k.invariant ∙ ap (λ n. c.args.list.now.items ++ entries_of c.args.endpoint (cell c.args.table.now (g.E.Endpoint.number_of c.args.endpoint)) n) all
