use Rattle.std.proofs.Common.{rules, ◌≡◌, ◌<◌, ◌++◌, ◌∷◌, [], length, map, sym, ap, ◌∙◌, arith, append_assoc, true}
use Rattle.std.specs.List.{range_with_len}
use Rattle.std.specs.Vec.Iter.{into_iter_items, into_iter_len}
use Rattle.dds_book.specs.Seat.{new_seat}
use Rattle.dds_apps.specs.Kept.{IsKept, claim_of, new_claim}
use Rattle.dds_apps.proofs.KeptLaws.{kept_new}
use Rattle.dds_peers.proofs.ListLaws.{all_next, all_more, map_more, next_made, length_map, made_len, map_both, range_more, walked, whole}
use Rattle.dds_peers.proofs.settling.sit.Goals as goal

pub unreachable-requires : goal.unreachable-requires
unreachable-requires g c =
    let i = c.loop-app.invariant in
    let len = made_len new_seat c.loop-app.number _ _ i.seats in
    let is = i.seats_len in
    let none = c.in_default.ensures.cases.0 in
    let less = c.in-Some.ensures.steps.1 in
    omega arith

pub unreachable-requires-in_default-next : goal.unreachable-requires-in_default-next
unreachable-requires-in_default-next g c =
    let i = c.loop-app.invariant in
    let len = sym (length_map claim_of (into_iter_items c.loop-app.counters)) ∙ made_len (new_claim c.args._gauge.now.table) c.loop-app.number _ _ i.counters in
    let is = i.counters_len in
    let none = c.in_default-next.ensures.cases.0 in
    let less = c.in-Some.ensures.steps.1 in
    omega arith

pub loop-app-preserved : goal.loop-app-preserved
loop-app-preserved g c =
    let i = c.loop-app.invariant in
    let steps = c.in-Some.ensures.steps in
    let less = steps.1 in
    let n = c.loop-app.number in
    let number = i.number in
    let seat = c.in-Some-next.ensures.cases in
    let counter = c.in-Some-next-2.ensures.cases in
    let seats = next_made new_seat n _ (into_iter_len c.next.new.self) c.in-Some-next.seat (into_iter_items c.next-in-loop-app.new.self) (into_iter_items c.loop-app.seats) i.seats seat.0 less in
    let counters = next_made (new_claim c.args._gauge.now.table) n _ (into_iter_len c.next.new.self) (claim_of c.in-Some-next-2.counter) (map claim_of (into_iter_items c.next-in-loop-app-2.new.self)) (map claim_of (into_iter_items c.loop-app.counters)) i.counters (ap (map claim_of) counter.0) less in
    let more = c.push_reserved.ensures.items in
    let made = c.new.ensures in
    let room = c.requires.gauge in
    let low : n < c.args._gauge.now.apps = omega arith in
    let none : c.args._fresh ≡ true → (g.A.App.notes c.new.result.app).entries ≡ [] = λ f. ap (λ a. (g.A.App.notes a).entries) made.0 ∙ all_next (λ a. (g.A.App.notes a).entries ≡ []) c.args.apps.items c.loop-app.yielded (into_iter_items c.loop-app.app-iterator) (into_iter_items c.next.new.self) c.in-Some.app (c.requires.fresh f) i.walk.whole steps.0 in
    let kept = kept_new c.args._gauge.now c.args._fresh c.in-Some-next.seat c.new.result.seat c.in-Some-next-2.counter c.new.result.counter n (g.A.App.notes c.new.result.app).entries seats.0 counters.0 made.1 made.2 low none in
    let seats_is = i.seats_len in
    let counters_is = i.counters_len in
    let seats_shorter = ap length seat.0 in
    let counters_shorter = ap length counter.0 in
    let seats_less = seat.1 in
    let counters_less = counter.1 in record {
      can_next = tt;
      is_finite = tt;
      walk = walked _ _ _ _ _ _ _ i.walk steps.0 less;
      room = search rules;
      number = omega arith;
      seats = seats.1;
      counters = counters.1;
      seats_len = omega arith;
      counters_len = omega arith;
      numbers = map_more (λ p. p.seat.number) c.loop-app.players.items c.push_reserved.new.self.items c.new.result more ∙ (λ k. i.numbers k ++ (ap (λ s. s.number) (made.1 ∙ seats.0)) k ∷ []) ∙ sym (range_more n);
      identities = map_both (λ p. g.A.App.identity p.app) (λ a. g.A.App.identity a) c.loop-app.players.items c.push_reserved.new.self.items c.new.result c.loop-app.yielded c.in-Some.app i.identities more (ap (λ a. g.A.App.identity a) made.0);
      players = all_more (λ p. IsKept c.args._gauge.now c.args._fresh p.seat p.counter (g.A.App.notes p.app).entries) c.loop-app.players.items c.push_reserved.new.self.items c.new.result more i.players kept;
    }

pub returns : goal.returns
returns g c =
    let i = c.loop-app.invariant in
    let number = i.number in
    let none = c.in-None.ensures.steps.0 in
    let all : c.loop-app.number ≡ length c.args.apps.items = omega arith in
    let came = whole c.args.apps.items c.loop-app.yielded (into_iter_items c.loop-app.app-iterator) _ i.walk.whole i.walk.counted none in record {
      numbers = i.numbers ∙ ap (range_with_len 0) all;
      identities = i.identities ∙ ap (map (λ a. g.A.App.identity a)) (sym came);
      players = i.players;
    }
