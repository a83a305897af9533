use Rattle.std.proofs.Common.{rules, ◌≡◌, ◌<◌, ◌++◌, ◌∷◌, [], List, true, length, set, refl, sym, ap, ◌∙◌, subst}
use Rattle.dds_book.specs.declared.entry.Entry.{Entry}
use Rattle.dds_book.specs.Halves.{holder_of}
use Rattle.dds_book.specs.Journal.{entry_of, most_entries}
use Rattle.dds_book.specs.Owning.{owns}
use Rattle.dds_book.specs.Seat.{SeatState}
use Rattle.dds_book.specs.State.{BookContent, Enters}
use Rattle.dds_book.proofs.BookLaws.{book_push, enters, seat_front}
use Rattle.dds_book.proofs.JournalLaws.{one_more}
use Rattle.dds_book.proofs.state.BookState.enter.Goals as goal

pub note-requires-clause-holder : goal.note-requires-clause-holder
note-requires-clause-holder g c = λ h at.
    let n = c.seat.inside.number in
    let entries = c.self.inside.journal.items in
    let e : Entry = entry_of n c.args.event c.in-Ok.reply in
    let hold = c.self.invariant.fronts.each n h at in
    let pushed : c.as_slice.result.now ≡ entries ++ e ∷ [] = c.as_slice.ensures.value ∙ c.push_reserved.ensures.items ∙ ap (λ (l : List Entry). l ++ e ∷ []) c.reserve.ensures.items in
    (c.seat.invariant.1 ∙ sym hold.table, hold.owner, one_more n h.front entries c.as_slice.result.now e pushed refl hold.front)

pub invariant_of-self-2 : goal.invariant_of-self-2
invariant_of-self-2 g c =
    let plan = g.N.Name.plan in
    let n = c.seat.inside.number in
    let entries = c.self.inside.journal.items in
    let holders = c.self.inside.holders.items in
    let e : Entry = entry_of n c.args.event c.in-Ok.reply in
    let pushed : c.push_reserved.new.self.items ≡ entries ++ e ∷ [] = c.push_reserved.ensures.items ∙ ap (λ (l : List Entry). l ++ e ∷ []) c.reserve.ensures.items in
    let room : length entries < most_entries = search rules in
    let own : owns plan n c.args.event ≡ true = search rules in
    book_push plan g.N.Name.tables entries c.push_reserved.new.self.items e c.self.inside.domain c.step.new.self holders c.note.new.holders.items c.self.inside.changes _
    pushed c.self.invariant room own c.in-Ok.ensures.steps c.in-Ok.ensures.plan
    (c.note.ensures.holders ∙ ap (λ l. set holders n (holder_of c.seat.inside.half.table n l)) c.as_slice.ensures.value ∙ ap (λ t. set holders n (holder_of t n c.push_reserved.new.self.items)) c.seat.invariant.1)
    c.count_change-self-inside.ensures

pub returns-clause-entered : goal.returns-clause-entered
returns-clause-entered g c =
    let plan = g.N.Name.plan in
    let n = c.seat.inside.number in
    let entries = c.self.inside.journal.items in
    let now = c.push_reserved.new.self.items in
    let e : Entry = entry_of n c.args.event c.in-Ok.reply in
    let pushed : now ≡ entries ++ e ∷ [] = c.push_reserved.ensures.items ∙ ap (λ (l : List Entry). l ++ e ∷ []) c.reserve.ensures.items in
    let room : length entries < most_entries = search rules in
    let own : owns plan n c.args.event ≡ true = search rules in
    let known = seat_front g.N.Name.tables entries c.self.inside.holders.items n c.seat.inside.half.front c.seat.invariant.0 c.self.invariant.fronts c.note.ensures.front in
    let made = enters plan g.N.Name.tables c.self.inside.closed entries now n c.seat.inside.half.front c.note.new.half.front c.args.event c.in-Ok.reply c.self.inside.domain c.step.new.self c.self.inside.holders.items c.self.inside.changes
    (search rules) room own pushed (ap (λ h. h.front) c.note.ensures.half ∙ c.as_slice.ensures.value) c.self.invariant c.in-Ok.ensures.steps c.in-Ok.ensures.good known in
    let after : SeatState = record { number = n; front = c.note.new.half.front } in
    let book : BookContent = record { closed = c.self.inside.closed; entries = now } in
    subst (λ (b : BookContent). Enters plan b book c.args.seat.now after c.args.event c.in-Ok.reply) c.self.view_is
    (subst (λ (s : SeatState). Enters plan (record { closed = c.self.inside.closed; entries = entries }) book s after c.args.event c.in-Ok.reply) c.seat.view_is made)
