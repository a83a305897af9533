use Rattle.std.proofs.Common.{◌&&◌, nat_lt}
use Rattle.std.specs.Prelude.{◌==◌}
use Rattle.dds_match.specs.Marks.{AddsMarks}
use Rattle.dds_match.specs.Plan.{hears, matched}
use Rattle.dds_match.proofs.tables.mark_readers.Given as goal

abbrev pub invariant-loop-r : goal.invariant-loop-r
invariant-loop-r l = AddsMarks l.initial.reached l.reached (λ i k. nat_lt i l.r && (hears l.lists i k && ((l.key == k) && matched l.lists l.w i)))
