use Rattle.std.proofs.Common.{◌≡◌}
use Rattle.dds_apps.specs.Kept.{IsCounted, done_by}
use Rattle.dds_apps.proofs.player.Player.play.Given as goal

abbrev pub invariant-loop : goal.invariant-loop
invariant-loop g l = record {
  can_next : (goal.iterator-loop g).can_next l.iterator';
  is_finite : (goal.iterator-loop g).is_finite l.iterator';
  counted : IsCounted l.initial.gauge.table l.player.seat l.player.counter;
  number : l.player.seat.number ≡ l.initial.player.seat.number;
  identity : g.A.App.identity l.player.app ≡ g.A.App.identity l.initial.player.app;
  diary : done_by l.initial.player.seat ≡ (g.A.App.notes l.initial.player.app).entries → done_by l.player.seat ≡ (g.A.App.notes l.player.app).entries;
}
