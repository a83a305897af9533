use Rattle.std.proofs.Common.{◌≡◌, ◌+◌, ◌≤◌, ◌*◌, ◌^◌, drop}
use Rattle.dds_match.specs.Network.{named}
use Rattle.dds_check.proofs.finite.named.Given as goal

-- the count of the portions so far, and the rest
abbrev pub invariant-loop-x : goal.invariant-loop-x
invariant-loop-x l = (l.total + named (drop l.x-index l.portions) l.writer l.key ≡ named l.portions l.writer l.key) × (l.total ≤ l.x-index * 2 ^ 16)
