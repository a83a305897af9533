use Rattle.std.proofs.Common.{rules, arith, ◌≡◌, ◌++◌, [], ◌∷◌, length, sym, ap, ◌∙◌}
use Rattle.std.proofs.lemmas.List.FromFn.{map-range_with_len_more}
use Rattle.dds_book.specs.Seat.{SeatState, new_seat}
use Rattle.dds_book.proofs.KitLaws.{next_half}
use Rattle.dds_book.proofs.state.sit.Goals as goal

pub push_reserved-requires : goal.push_reserved-requires
push_reserved-requires g c =
    let i = c.loop-half.invariant in
    let len = i.len in
    let number = i.number in
    let room = i.room in
    let less = c.in-Some.ensures.steps.1 in
    omega arith

pub loop-half-preserved : goal.loop-half-preserved
loop-half-preserved g c =
    let i = c.loop-half.invariant in
    let steps = c.in-Some.ensures.steps in
    let n = c.loop-half.number in
    let h = c.in-Some.half in
    let next = next_half g.N.Name.tables n h _ _ i.rest steps.0 in
    let here : SeatState = record { number = n; front = h.front } in
    let is : here ≡ new_seat n = ap (λ f. record { number = n; front = f }) (ap (λ x. x.front) next.1) in
    let counted = i.counted in
    let number = i.number in
    let less = steps.1 in
    let shorter = ap length steps.0 in record {
      can_next = tt;
      is_finite = tt;
      rest = next.2;
      counted = omega arith;
      number = omega arith;
      room = search rules;
      len = search rules;
      seats = c.push_reserved.ensures.items ∙ (λ k. i.seats k ++ is k ∷ []) ∙ sym (map-range_with_len_more new_seat 0 n n (omega arith));
    }
