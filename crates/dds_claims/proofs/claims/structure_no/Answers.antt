use Rattle.dds_claims.proofs.Unlimited.{structure_always}
use Rattle.dds_claims.proofs.claims.structure_no.Goals as goal

pub returns-clause-always : goal.returns-clause-always
returns-clause-always c = structure_always c.args.plan.now c.first_structure_no.result c.first_structure_no.ensures
