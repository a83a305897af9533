use Rattle.dds_match.specs.Plan.{network_of}
use Rattle.dds_check.specs.Rows.{row_take_raises, row_rule_raises, row_write_raises}
use Rattle.dds_check.proofs.FirstLemmas.{first_in_next}
use Rattle.dds_check.proofs.rows.refusals_of.Goals as goal

pub loop-n-preserved : goal.loop-n-preserved
loop-n-preserved c =
    let net = network_of c.args.plan.now in
    record {
      take = first_in_next _ (row_take_raises net) _ _ _ _ c.tables_of-weights.ensures c.loop-n.invariant.take c.with_row-found.ensures.take;
      rule = first_in_next _ (row_rule_raises net) _ _ _ _ c.tables_of-weights.ensures c.loop-n.invariant.rule c.with_row-found.ensures.rule;
      write = first_in_next _ (row_write_raises net) _ _ _ _ c.tables_of-weights.ensures c.loop-n.invariant.write c.with_row-found.ensures.write;
    }
