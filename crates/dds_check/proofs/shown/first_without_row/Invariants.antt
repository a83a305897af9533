use Rattle.std.proofs.Common.{map}
use Rattle.dds_weights.specs.Views.{row_view}
use Rattle.dds_runs.specs.First.{NoneBefore}
use Rattle.dds_check.specs.Shown.{names_no_row}
use Rattle.dds_check.proofs.shown.first_without_row.Given as goal

abbrev pub invariant-loop-i : goal.invariant-loop-i
invariant-loop-i l = NoneBefore l.certificate.bounds.items (names_no_row (map row_view l.certificate.rows.items)) l.i
