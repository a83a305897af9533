use Rattle.dds_match.specs.Plan.{network_of}
use Rattle.dds_lint.specs.Conditions.{row_rule_nos}
use Rattle.dds_lint.proofs.EveryLaws.{every_in_more}
use Rattle.dds_lint.proofs.rows.push_rules.Goals as goal

pub loop-n-preserved : goal.loop-n-preserved
loop-n-preserved c =
    every_in_more _ (row_rule_nos (network_of c.args.plan.now)) _ _ _ _ _ c.tables_of-weights.ensures c.loop-n.invariant c.in_ok-push_row_rules.ensures
