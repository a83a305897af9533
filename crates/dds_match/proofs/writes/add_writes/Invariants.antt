use Rattle.std.proofs.Common.{◌≡◌, ◌++◌, drop}
use Rattle.dds_match.proofs.Brought.{portions_at}
use Rattle.dds_match.proofs.writes.add_writes.Given as goal

-- the portions so far, and the rest
abbrev pub invariant-loop-portion : goal.invariant-loop-portion
invariant-loop-portion l = l.list.items ++ portions_at l.rule.pace l.w (drop l.portion-index l.rule.writes.items) ≡ l.initial.list.items ++ portions_at l.rule.pace l.w l.rule.writes.items
