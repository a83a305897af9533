use Rattle.std.proofs.Common.{take, ◌&&◌}
use Rattle.std.specs.Prelude.{◌==◌}
use Rattle.std.specs.List.{list_any}
use Rattle.dds_match.specs.Marks.{AddsMarks}
use Rattle.dds_match.specs.Plan.{hears, matched}
use Rattle.dds_match.proofs.tables.mark_coming.Given as goal

abbrev pub invariant-loop-portion : goal.invariant-loop-portion
invariant-loop-portion l = AddsMarks l.initial.reached l.reached (λ r k. hears l.lists r k && list_any (λ e. (e.key == k) && matched l.lists e.endpoint r) (take l.portion-index l.writes))
