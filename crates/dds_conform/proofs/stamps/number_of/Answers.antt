use Rattle.dds_conform.proofs.Stamped.{number_none, number_some}
use Rattle.dds_conform.proofs.stamps.number_of.Goals as goal

pub returns-clause-some : goal.returns-clause-some
returns-clause-some c = number_some c.args.digits.now c.parse.result c.ok.result c.requires c.parse.ensures.value.0 c.ok.ensures.value

pub returns-clause-none : goal.returns-clause-none
returns-clause-none c = number_none c.args.digits.now c.parse.result c.ok.result c.requires c.parse.ensures.value.0 c.ok.ensures.value
