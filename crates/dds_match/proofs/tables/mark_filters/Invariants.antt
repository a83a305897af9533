use Rattle.std.proofs.Common.{◌&&◌, nat_lt}
use Rattle.dds_match.specs.Marks.{AddsMarks}
use Rattle.dds_match.specs.Plan.{hears}
use Rattle.dds_match.proofs.tables.mark_filters.Given as goal

abbrev pub invariant-loop-r : goal.invariant-loop-r
invariant-loop-r l = AddsMarks l.initial.hearing l.hearing (λ i k. nat_lt i l.r && hears l.lists i k)
