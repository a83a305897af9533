use Rattle.dds_cert.specs.Document.{read}
use Rattle.dds_findings.proofs.Joined.{flawed_judged}
use Rattle.dds_findings.proofs.linting.certified_findings.Goals as goal

pub returns-in-Err-At-clause-found : goal.returns-in-Err-At-clause-found
returns-in-Err-At-clause-found c =
    flawed_judged (λ v. v.items) c.args.plan.now (read c.args.plan.now c.args.bytes.now) c.in-Err-At.field-0 c.in-Err-At.first c.flawed_findings-found.result
    c.in-Err-At.field-0-is c.in-Err-At.ensures.answers
    c.flawed_findings-found.ensures.found
