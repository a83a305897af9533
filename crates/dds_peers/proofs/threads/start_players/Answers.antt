use Rattle.std.proofs.Common.{rules, ◌≡◌, ◌++◌, ◌∷◌, [], length, map, sym, ap, ◌∙◌, arith, append_assoc}
use denote.Param.Send.{sendable}
use Rattle.std.specs.Vec.Iter.{into_iter_items}
use Rattle.dds_apps.specs.Kept.{IsKept}
use Rattle.dds_peers.proofs.ListLaws.{all_next, all_more, map_both, whole, walked}
use Rattle.dds_peers.proofs.threads.start_players.Goals as goal

pub spawn_with-requires-clause-runs : goal.spawn_with-requires-clause-runs
spawn_with-requires-clause-runs g c =
    let i = c.loop-player.invariant in
    let kept = all_next (λ p. IsKept c.args.shared.gauge.now c.args.fresh p.seat p.counter (g.A.App.notes p.app).entries) c.args.players.items c.loop-player.yielded (into_iter_items c.loop-player.player-iterator) (into_iter_items c.next.new.self) c.in-Some.player
    c.requires.players i.walk.whole c.in-Some.ensures.steps.0
    in
    λ κs at. (kept, search sendable depth 20)

pub loop-player-preserved : goal.loop-player-preserved
loop-player-preserved g c =
    let i = c.loop-player.invariant in
    let steps = c.in-Some.ensures.steps in
    let less = steps.1 in
    let promise = c.in-Ok.ensures.ok in
    let more = c.push_reserved.ensures.items in record {
      can_next = tt;
      is_finite = tt;
      walk = walked _ _ _ _ _ _ _ i.walk steps.0 less;
      room = search rules;
      len = search rules;
      apps = map_both (λ h. h.promise.app) (λ p. p.seat.number) c.loop-player.handles.items c.push_reserved.new.self.items c.in-Ok.handle c.loop-player.yielded c.in-Some.player i.apps more (ap (λ p. p.app) promise ∙ c.number.ensures);
      identities = map_both (λ h. g.A.App.identity h.promise.was.value) (λ p. g.A.App.identity p.app) c.loop-player.handles.items c.push_reserved.new.self.items c.in-Ok.handle c.loop-player.yielded c.in-Some.player i.identities more
          (ap (λ p. g.A.App.identity p.was.value) promise ∙ ap (λ a. g.A.App.identity a) c.of-in-loop-player.ensures);
      promises = all_more (λ h. (h.promise.gauge.value ≡ c.args.shared.gauge.now) × (h.promise.fresh ≡ c.args.fresh)) c.loop-player.handles.items c.push_reserved.new.self.items c.in-Ok.handle more i.promises
          (ap (λ p. p.gauge.value) promise ∙ c.of.ensures, ap (λ p. p.fresh) promise);
    }

pub returns-clause-all : goal.returns-clause-all
returns-clause-all g c _ =
    let i = c.loop-player.invariant in
    let all = whole c.args.players.items c.loop-player.yielded (into_iter_items c.loop-player.player-iterator) _ i.walk.whole i.walk.counted c.in-None.ensures.steps.0 in
    i.apps ∙ ap (map (λ p. p.seat.number)) (sym all) ∙ c.requires.numbers

pub returns-clause-identities : goal.returns-clause-identities
returns-clause-identities g c _ =
    let i = c.loop-player.invariant in
    let all = whole c.args.players.items c.loop-player.yielded (into_iter_items c.loop-player.player-iterator) _ i.walk.whole i.walk.counted c.in-None.ensures.steps.0 in
    i.identities ∙ ap (map (λ p. g.A.App.identity p.app)) (sym all)
