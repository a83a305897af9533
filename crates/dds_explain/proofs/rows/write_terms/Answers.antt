use Rattle.std.proofs.Common.{rules}
use Rattle.dds_weights.specs.Views.{row_view}
use Rattle.dds_explain.specs.Rows.{write_term}
use Rattle.dds_explain.proofs.rows.write_terms.Goals as goal

pub returns : goal.returns
returns c = c.text_of_each.ensures (write_term c.args.plan.now (row_view c.args.row.now)) (λ x r post. search rules)
