use Rattle.std.proofs.Common.{◌≡◌, false, take}
use Rattle.std.specs.Prelude.{◌==◌}
use Rattle.std.specs.List.{list_any}
use Rattle.dds_guard.specs.Guard.{RuleState}
use Rattle.dds_guard.proofs.guard.Guard.first_of.Given as goal

-- no rule so far has the name
abbrev pub invariant-loop-u : goal.invariant-loop-u
invariant-loop-u l = list_any (λ (x : RuleState). x.entry == l.entry) (take l.u l.self-inside.rules.items) ≡ false
