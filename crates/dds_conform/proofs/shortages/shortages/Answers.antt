use Rattle.dds_match.specs.Plan.{network_of}
use Rattle.dds_conform.specs.Shortages.{rule_shortages}
use Rattle.dds_conform.proofs.Lacking.{one_more_rule}
use Rattle.dds_conform.proofs.shortages.shortages.Goals as goal

pub loop-u-preserved : goal.loop-u-preserved
loop-u-preserved c = one_more_rule (rule_shortages (network_of c.args.plan.now) c.args.ledger.now.spare c.args.writer c.args.key) c.loop-u.short.items _ c.loop-u.u c.new.result c.loop-u.invariant c.new.ensures c.in_ok-push_of_rule.ensures
