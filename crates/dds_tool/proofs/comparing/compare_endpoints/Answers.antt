use Rattle.std.proofs.Common.{◌≡◌, ap, sym}
use Rattle.dds_deploy.specs.Document.{read}
use Rattle.dds_fields.specs.Reading.{Read}
use Rattle.dds_lists.specs.Lists.{Lists}
use Rattle.dds_tool.specs.Outcome.{compared}
use Rattle.dds_tool.proofs.Outcomes.{compared_bad, unread_comes}
use Rattle.dds_tool.proofs.comparing.compare_endpoints.Goals as goal

pub returns-in-Ok-clause-comes : goal.returns-in-Ok-clause-comes
returns-in-Ok-clause-comes c = λ names style. (tt, ap (λ (d : Read Lists). compared c.args.what style d) (sym c.in-Ok.ensures.plan))

pub returns-in-Err-clause-comes : goal.returns-in-Err-clause-comes
returns-in-Err-clause-comes c =
    unread_comes ⊥ (λ style d end. end ≡ compared c.args.what style d) (compared_bad c.args.what) (read c.args.deployment.now) c.in-Err.fault c.in-Err.ensures.fault
