use Rattle.std.proofs.Common.{◌≡◌, ◌++◌, [], slice_get}
use Rattle.std.specs.Option.{option_map_or}
use Rattle.dds_match.specs.Plan.{network_of}
use Rattle.dds_weights.specs.Views.{certificate_view}
use Rattle.dds_lint.specs.Conditions.{row_write_nos}
use Rattle.dds_lint.specs.Every.{every_below}
use Rattle.dds_lint.proofs.rows.push_writes.Given as goal

-- those of the rows so far are added
abbrev pub invariant-loop-n : goal.invariant-loop-n
invariant-loop-n l =
    l.nos.items ≡ l.initial.nos.items ++ every_below l.n (λ i. option_map_or (λ row. row_write_nos (network_of l.plan) row i) (slice_get (certificate_view l.certificate).rows i) [])
