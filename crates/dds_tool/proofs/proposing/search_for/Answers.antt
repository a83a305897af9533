use Rattle.std.proofs.Common.{Ok, refl}
use Rattle.dds_sizing.specs.Searches.{MayFind, found_end}
use Rattle.dds_sizing.proofs.Founds.{accepted_of, found_may}
use Rattle.dds_tool.specs.Commands.{MayInStyle}
use Rattle.dds_tool.proofs.Outcomes.{memory_comes}
use Rattle.dds_tool.proofs.proposing.search_for.Goals as goal

pub returns-in-Ok-clause-comes : goal.returns-in-Ok-clause-comes
returns-in-Ok-clause-comes g c = λ names style. (tt, (found_end c.args.plan c.in-Ok.found, found_may c.args.plan c.in-Ok.found (accepted_of c.args.plan c.in-Ok.found c.in-Ok.ensures.fits c.in-Ok.ensures.accepted), refl))

pub returns-in-Err-clause-comes : goal.returns-in-Err-clause-comes
returns-in-Err-clause-comes g c = λ names style. memory_comes ⊥ (MayInStyle style (MayFind (Ok c.args.plan))) names style
