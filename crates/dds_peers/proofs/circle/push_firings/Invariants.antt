use Rattle.std.proofs.Common.{◌≡◌, ◌++◌, map, filter}
use Rattle.std.specs.List.{range_with_len}
use Rattle.dds_peers.specs.declared.circle.Step.TheVariants.{Fire}
use Rattle.dds_peers.specs.Steady.{is_fired}
use Rattle.dds_peers.proofs.circle.push_firings.Given as goal

abbrev pub invariant-loop-rule : goal.invariant-loop-rule
invariant-loop-rule l = l.circle.items ≡ l.initial.circle.items ++ map (λ u. Fire u) (filter (is_fired l.lists l.app) (range_with_len 0 l.rule))
