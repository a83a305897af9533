use Rattle.std.proofs.Common.{◌≡◌, false, take}
use Rattle.std.specs.List.{list_any}
use Rattle.dds_guard.specs.Refusals.{serves}
use Rattle.dds_guard.proofs.guard.Guard.serving.Given as goal

-- no rule so far serves the write
abbrev pub invariant-loop-u : goal.invariant-loop-u
invariant-loop-u l = list_any (serves l.self-inside.account.ledger l.writer l.key) (take l.u l.self-inside.rules.items) ≡ false
