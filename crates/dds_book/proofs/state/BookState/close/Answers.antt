use Rattle.std.proofs.Common.{arith, ◌++◌, [], ◌∷◌, All, length, append_assoc, append-nil, sym, ap, ◌∙◌, subst}
use Rattle.std.specs.List.{slice_get}
use Rattle.std.specs.Vec.Iter.{into_iter_items}
use Rattle.std.proofs.lemmas.List.Elements.{All-append}
use Rattle.dds_book.specs.Journal.{IsFront}
use Rattle.dds_book.specs.Seat.{SeatState}
use Rattle.dds_book.specs.State.{BookContent}
use Rattle.dds_book.proofs.BookLaws.{seat_front}
use Rattle.dds_book.proofs.JournalLaws.{All_one}
use Rattle.dds_book.proofs.KitLaws.{none_left}
use Rattle.dds_book.proofs.state.BookState.close.Goals as goal

pub same-requires-clause-holder : goal.same-requires-clause-holder
same-requires-clause-holder g c = λ h at.
    let seat = c.seat.inside.number in
    c.seat.invariant.1 ∙ sym (c.self.invariant.fronts.each seat h (ap (λ l. slice_get l seat) (sym c.loop-seat.invariant.holders) ∙ at)).table

pub loop-seat-preserved : goal.loop-seat-preserved
loop-seat-preserved g c =
    let i = c.loop-seat.invariant in
    let steps = c.in-Some.ensures.steps in
    let seat : SeatState = c.in-Some.seat in
    let entries = c.self.inside.journal.items in
    let P : SeatState → Type 0 = λ s. IsFront s.number s.front entries in
    let counted = i.counted in
    let less = steps.1 in
    let shorter = ap length steps.0 in
    let known = seat_front g.N.Name.tables entries c.self.inside.holders.items c.seat.inside.number c.seat.inside.half.front c.seat.invariant.0 c.self.invariant.fronts
    (λ h at. c.same.ensures.front h (ap (λ l. slice_get l c.seat.inside.number) i.holders ∙ at)) in
    let mine : P seat = subst P c.seat.view_is known in record {
      can_next = tt;
      is_finite = tt;
      holders = c.same.ensures.same ∙ i.holders;
      counted = omega arith;
      seats = i.seats ∙ ap (λ l. c.loop-seat.yielded ++ l) steps.0 ∙ sym (append_assoc c.loop-seat.yielded (seat ∷ []) (into_iter_items c.next.new.self));
      fronts = All-append P c.loop-seat.yielded (seat ∷ []) i.fronts (All_one P seat mine);
    }

pub returns-clause-entries : goal.returns-clause-entries
returns-clause-entries g c = ap (λ (b : BookContent). b.entries) c.self.view_is

pub returns-clause-fronts : goal.returns-clause-fronts
returns-clause-fronts g c =
    let i = c.loop-seat.invariant in
    let entries = c.self.inside.journal.items in
    let P : SeatState → Type 0 = λ s. IsFront s.number s.front entries in
    let none = none_left _ (into_iter_items c.loop-seat.seat-iterator) i.counted c.in-None.ensures.steps.0 in
    let all = i.seats ∙ ap (λ l. c.loop-seat.yielded ++ l) none ∙ append-nil c.loop-seat.yielded in
    subst (All P) (sym all) i.fronts
