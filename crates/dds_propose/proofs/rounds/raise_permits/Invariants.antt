use Rattle.std.proofs.Common.{take}
use Rattle.dds_propose.specs.Following.{RaisesPermits}
use Rattle.dds_propose.proofs.rounds.raise_permits.Given as goal

-- the permits of the writers so far have risen
abbrev pub invariant-loop-writer : goal.invariant-loop-writer
invariant-loop-writer l = RaisesPermits (take l.writer-index l.writers) l.key l.rise l.initial.weights l.weights
