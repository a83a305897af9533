use Rattle.std.proofs.Common.{rules, ◌≡◌, ◌++◌, ◌∷◌, [], length, map, sym, ap, ◌∙◌, subst, arith, append_assoc}
use Rattle.std.specs.Vec.Iter.{into_iter_items}
use Rattle.dds_apps.specs.Kept.{IsKept}
use Rattle.dds_peers.proofs.ListLaws.{all_next, all_more, map_both, whole, walked}
use Rattle.dds_peers.proofs.threads.join_players.Goals as goal

pub loop-handle-preserved : goal.loop-handle-preserved
loop-handle-preserved g c =
    let i = c.loop-handle.invariant in
    let steps = c.in-Some.ensures.steps in
    let less = steps.1 in
    let more = c.push_reserved.ensures.items in
    let kept = c.join.ensures in
    let promise = all_next (λ h. (h.promise.gauge.value ≡ c.args._gauge.now) × (h.promise.fresh ≡ c.args._fresh)) c.args.handles.items c.loop-handle.yielded (into_iter_items c.loop-handle.handle-iterator) (into_iter_items c.next.new.self) c.in-Some.handle
    c.requires.promises i.walk.whole steps.0
    in
    let mine = subst (λ y. IsKept y c.args._fresh c.join.result.seat c.join.result.counter (g.A.App.notes c.join.result.app).entries) promise.0
    (subst (λ y. IsKept c.in-Some.handle.promise.gauge.value y c.join.result.seat c.join.result.counter (g.A.App.notes c.join.result.app).entries) promise.1 kept.2)
    in record {
      can_next = tt;
      is_finite = tt;
      walk = walked _ _ _ _ _ _ _ i.walk steps.0 less;
      room = search rules;
      numbers = map_both (λ p. p.seat.number) (λ h. h.promise.app) c.loop-handle.players.items c.push_reserved.new.self.items c.join.result c.loop-handle.yielded c.in-Some.handle i.numbers more kept.0;
      identities = map_both (λ p. g.A.App.identity p.app) (λ h. g.A.App.identity h.promise.was.value) c.loop-handle.players.items c.push_reserved.new.self.items c.join.result c.loop-handle.yielded c.in-Some.handle i.identities more kept.1;
      players = all_more (λ p. IsKept c.args._gauge.now c.args._fresh p.seat p.counter (g.A.App.notes p.app).entries) c.loop-handle.players.items c.push_reserved.new.self.items c.join.result more i.players mine;
    }

pub returns-clause-numbers : goal.returns-clause-numbers
returns-clause-numbers g c =
    let i = c.loop-handle.invariant in
    let all = whole c.args.handles.items c.loop-handle.yielded (into_iter_items c.loop-handle.handle-iterator) _ i.walk.whole i.walk.counted c.in-None.ensures.steps.0 in
    i.numbers ∙ ap (map (λ h. h.promise.app)) (sym all)

pub returns-clause-identities : goal.returns-clause-identities
returns-clause-identities g c =
    let i = c.loop-handle.invariant in
    let all = whole c.args.handles.items c.loop-handle.yielded (into_iter_items c.loop-handle.handle-iterator) _ i.walk.whole i.walk.counted c.in-None.ensures.steps.0 in
    i.identities ∙ ap (map (λ h. g.A.App.identity h.promise.was.value)) (sym all)
