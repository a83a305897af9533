use Rattle.std.proofs.Common.{◌≡◌, false, take}
use Rattle.std.specs.Prelude.{◌==◌, ◌&&◌}
use Rattle.std.specs.List.{list_any}
use Rattle.dds_lists.specs.Lists.{Rule}
use Rattle.dds_peers.proofs.circle.is_written.Given as goal

abbrev pub invariant-loop-rule : goal.invariant-loop-rule
invariant-loop-rule l = list_any (λ (x : Rule). (x.application == l.app) && list_any (λ p. (p.endpoint == l.writer) && (p.key == l.key)) x.writes) (take l.rule l.lists.rules.entries) ≡ false
