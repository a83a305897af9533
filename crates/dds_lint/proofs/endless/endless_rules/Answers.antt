use Rattle.dds_lint.proofs.EndlessLaws.{are_refused}
use Rattle.dds_lint.proofs.endless.endless_rules.Goals as goal

pub returns-clause-refused : goal.returns-clause-refused
returns-clause-refused c = are_refused c.args.plan.now c.assert_well_formed.ensures.well_formed c.assert_well_formed.ensures.network

pub returns-in_err-push_below-clause-refused : goal.returns-in_err-push_below-clause-refused
returns-in_err-push_below-clause-refused c = are_refused c.args.plan.now c.assert_well_formed.ensures.well_formed c.assert_well_formed.ensures.network
