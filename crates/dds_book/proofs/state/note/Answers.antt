use Rattle.std.proofs.Common.{◌+◌, set, sym, ap, ◌∙◌}
use Rattle.dds_book.specs.Halves.{entries_by, holder_of}
use Rattle.dds_book.specs.Journal.{seat_of}
use Rattle.dds_book.proofs.BookLaws.{one_at, read_at}
use Rattle.dds_book.proofs.state.note.Goals as goal

pub advance-requires-clause-more : goal.advance-requires-clause-more
advance-requires-clause-more c =
    let h = c.index_mut-holder.result.now in
    let is = c.requires.holder h (read_at _ _ _ c.requires.number c.index_mut-holder.ensures.value) in
    ap (λ n. entries_by seat_of n c.args.journal.now) is.1 ∙ is.2 ∙ ap (λ n. entries_by seat_of n h.front + 1) (sym is.1)

pub returns-clause-front : goal.returns-clause-front
returns-clause-front c = λ h at.
    c.advance.ensures.equal ∙ ap (λ x. x.front) (one_at c.args.holders.now.items c.args.number _ h (read_at _ _ _ c.requires.number c.index_mut-holder.ensures.value) at)

pub returns-clause-holders : goal.returns-clause-holders
returns-clause-holders c =
    let h = c.index_mut-holder.result.now in
    let is = c.requires.holder h (read_at _ _ _ c.requires.number c.index_mut-holder.ensures.value) in
    let journal = c.args.journal.now in
    ap (set c.args.holders.now.items c.args.number) (c.advance.ensures.own ∙ ap (λ t. holder_of t h.owner journal) (sym is.0) ∙ ap (λ n. holder_of c.args.half.now.table n journal) is.1)
