use Rattle.std.proofs.Common.{◌≡◌}
use Rattle.dds_match.proofs.Brought.{writes_below}
use Rattle.dds_match.proofs.writes.writes_at.Given as goal

-- what the rules so far write
abbrev pub invariant-loop-u : goal.invariant-loop-u
invariant-loop-u l = l.list.items ≡ writes_below l.lists l.w l.u
