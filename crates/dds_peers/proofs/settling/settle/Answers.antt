use Rattle.std.proofs.Common.{rules, ◌≡◌, ◌+◌, ◌<◌, ◌++◌, ◌∷◌, [], length, map, sym, ap, ◌∙◌, refl, subst, arith, append_assoc, length-append, Some}
use Rattle.std.specs.Vec.Iter.{into_iter_items}
use Rattle.dds_apps.specs.Kept.{IsKept, done_by}
use Rattle.dds_peers.proofs.ListLaws.{all_next, map_more, map_both, whole, walked}
use Rattle.dds_peers.proofs.settling.settle.Goals as goal

pub read-count-requires-clause-gauge : goal.read-count-requires-clause-gauge
read-count-requires-clause-gauge g c =
    let i = c.loop-player.invariant in
    (all_next (λ p. IsKept c.args.gauge.now c.args._fresh p.seat p.counter (g.A.App.notes p.app).entries) c.args.players.items c.loop-player.yielded (into_iter_items c.loop-player.player-iterator) (into_iter_items c.next.new.self) c.in-Some.player c.requires.players i.walk.whole c.in-Some.ensures.steps.0).counted.gauge

pub read-count-requires-clause-app : goal.read-count-requires-clause-app
read-count-requires-clause-app g c =
    let i = c.loop-player.invariant in
    let kept = all_next (λ p. IsKept c.args.gauge.now c.args._fresh p.seat p.counter (g.A.App.notes p.app).entries) c.args.players.items c.loop-player.yielded (into_iter_items c.loop-player.player-iterator) (into_iter_items c.next.new.self) c.in-Some.player c.requires.players i.walk.whole c.in-Some.ensures.steps.0 in
    subst (λ n. n < c.args.gauge.now.apps) (sym (c.new.ensures ∙ c.number.ensures)) kept.app

pub loop-player-preserved : goal.loop-player-preserved
loop-player-preserved g c =
    let i = c.loop-player.invariant in
    let steps = c.in-Some.ensures.steps in
    let less = steps.1 in
    let player = c.in-Some.player in
    let kept = all_next (λ p. IsKept c.args.gauge.now c.args._fresh p.seat p.counter (g.A.App.notes p.app).entries) c.args.players.items c.loop-player.yielded (into_iter_items c.loop-player.player-iterator) (into_iter_items c.next.new.self) c.in-Some.player c.requires.players i.walk.whole steps.0 in
    let apps = c.push_reserved.ensures.items in
    let ends = c.push_reserved-in-loop-player.ensures.items in
    let counts = c.push_reserved-in-loop-player-2.ensures.items in
    let seats = c.push_reserved-in-loop-player-3.ensures.items in
    let count : c.read-count.result ≡ length (done_by player.seat) = c.read-count.ensures.own (kept.counted.owner ∙ ap Some (sym (c.new.ensures ∙ c.number.ensures))) ∙ kept.counted.count in record {
      can_next = tt;
      is_finite = tt;
      walk = walked _ _ _ _ _ _ _ i.walk steps.0 less;
      apps_room = search rules;
      ends_room = search rules;
      counts_room = search rules;
      seats_room = search rules;
      numbers = map_both (λ s. s.number) (λ p. p.seat.number) c.loop-player.seats.items c.push_reserved-in-loop-player-3.new.self.items player.seat c.loop-player.yielded player i.numbers seats refl;
      identities = map_both (λ a. g.A.App.identity a) (λ p. g.A.App.identity p.app) c.loop-player.apps.items c.push_reserved.new.self.items player.app c.loop-player.yielded player i.identities apps refl;
      diaries = λ f. map_both (λ a. (g.A.App.notes a).entries) done_by c.loop-player.apps.items c.push_reserved.new.self.items player.app c.loop-player.seats.items player.seat (i.diaries f) apps (sym (kept.entries f)) ∙ ap (map done_by) (sym seats);
      counts = counts ∙ (λ k. i.counts k ++ count k ∷ []) ∙ sym (map_more (λ s. length (done_by s)) c.loop-player.seats.items c.push_reserved-in-loop-player-3.new.self.items player.seat seats);
      ends = ap length ends ∙ length-append c.loop-player.ends.items _ ∙ ap (λ n. n + 1) i.ends ∙ sym (length-append c.loop-player.yielded (player ∷ []));
    }

pub returns : goal.returns
returns g c =
    let i = c.loop-player.invariant in
    let all = whole c.args.players.items c.loop-player.yielded (into_iter_items c.loop-player.player-iterator) _ i.walk.whole i.walk.counted c.in-None.ensures.steps.0 in record {
      numbers = i.numbers ∙ ap (map (λ p. p.seat.number)) (sym all);
      identities = i.identities ∙ ap (map (λ p. g.A.App.identity p.app)) (sym all);
      diaries = i.diaries;
      counts = i.counts;
      ends = i.ends ∙ ap length (sym all);
    }
