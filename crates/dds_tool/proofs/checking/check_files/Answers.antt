use Rattle.std.proofs.Common.{ap, inr, refl, sym}
use Rattle.dds_answers.specs.Outcome.{Outcome, outcome, told}
use Rattle.dds_answers.proofs.Telling.{reported_ends}
use Rattle.dds_json.specs.Ends.{in_style}
use Rattle.dds_json.proofs.Ends.{ends_in_style}
use Rattle.dds_tool.proofs.checking.check_files.Goals as goal

pub returns-in-Ok-clause-comes : goal.returns-in-Ok-clause-comes
returns-in-Ok-clause-comes c = λ names style. (tt, ap (λ (end : Outcome). in_style style (told c.args.detail end)) (sym c.in-Ok.ensures.tells))

pub returns-in-Err-clause-comes : goal.returns-in-Err-clause-comes
returns-in-Err-clause-comes c = λ names style.
    let end = outcome c.args.deployment.now c.args.certificate.now in
    inr (inr (
      in_style style (told c.args.detail end),
      refl,
      ends_in_style style c.in-Err.fault (told c.args.detail end) (reported_ends c.args.detail c.in-Err.fault end c.in-Err.ensures.tells),
    ))
