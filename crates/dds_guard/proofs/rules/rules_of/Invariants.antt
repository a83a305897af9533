use Rattle.std.proofs.Common.{◌≡◌, map}
use Rattle.std.specs.List.{range_with_len}
use Rattle.dds_guard.specs.Guard.{rule_state}
use Rattle.dds_guard.proofs.rules.rules_of.Given as goal

-- the rules so far
abbrev pub invariant-loop-u : goal.invariant-loop-u
invariant-loop-u l = l.rules.items ≡ map (rule_state l.lists l.app) (range_with_len 0 l.u)
