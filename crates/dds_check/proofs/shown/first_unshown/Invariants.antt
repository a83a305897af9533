use Rattle.std.proofs.Common.{length, map}
use Rattle.dds_match.specs.Plan.{network_of}
use Rattle.dds_weights.specs.Views.{row_view}
use Rattle.dds_runs.specs.First.{IsFirstBefore}
use Rattle.dds_check.proofs.Unshown.{is_unshown_until}
use Rattle.dds_check.proofs.shown.first_unshown.Given as goal

abbrev pub invariant-loop-n : goal.invariant-loop-n
invariant-loop-n l = IsFirstBefore l.certificate.bounds.items (is_unshown_until (network_of l.plan) (map row_view l.certificate.rows.items) l.n) (length l.certificate.bounds.items) l.end
