use Rattle.std.proofs.Common.{take}
use Rattle.dds_match.specs.Marks.{AddsMarks}
use Rattle.dds_match.specs.Network.{is_named}
use Rattle.dds_match.proofs.tables.mark_writes.Given as goal

abbrev pub invariant-loop-portion : goal.invariant-loop-portion
invariant-loop-portion l = AddsMarks l.initial.written l.written (is_named (take l.portion-index l.writes))
