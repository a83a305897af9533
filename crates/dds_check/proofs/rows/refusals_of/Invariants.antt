use Rattle.std.proofs.Common.{◌≡◌}
use Rattle.dds_match.specs.Plan.{network_of}
use Rattle.dds_weights.specs.Views.{certificate_view}
use Rattle.dds_runs.specs.First.{first_below, at_item}
use Rattle.dds_check.specs.Rows.{row_take_raises, row_rule_raises, row_write_raises}
use Rattle.dds_check.proofs.rows.refusals_of.Given as goal

abbrev pub invariant-loop-n : goal.invariant-loop-n
invariant-loop-n l = record {
  take : l.found.take ≡ first_below l.n (at_item (certificate_view l.certificate).rows (row_take_raises (network_of l.plan)));
  rule : l.found.rule ≡ first_below l.n (at_item (certificate_view l.certificate).rows (row_rule_raises (network_of l.plan)));
  write : l.found.write ≡ first_below l.n (at_item (certificate_view l.certificate).rows (row_write_raises (network_of l.plan)));
}
