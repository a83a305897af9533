use Rattle.std.proofs.Common.{take, ◌&&◌}
use Rattle.std.specs.Prelude.{◌==◌}
use Rattle.std.specs.List.{list_any}
use Rattle.dds_match.specs.Marks.{AddsMarks}
use Rattle.dds_match.proofs.tables.mark_filter.Given as goal

abbrev pub invariant-loop-key : goal.invariant-loop-key
invariant-loop-key l = AddsMarks l.initial.hearing l.hearing (λ i k. (l.r == i) && list_any (λ y. y == k) (take l.key-index l.filter))
