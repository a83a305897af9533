use Rattle.std.proofs.Common.{ap, inr, refl, sym}
use Rattle.dds_fields.specs.Reading.{Read}
use Rattle.dds_weights.specs.Lists.{Certificate}
use Rattle.dds_cert.specs.Document.{read}
use Rattle.dds_answers.specs.Outcome.{drawing_with}
use Rattle.dds_answers.proofs.Telling.{undrawn_with_ends}
use Rattle.dds_tool.proofs.showing.draw_with.Goals as goal

pub returns-in-Ok-clause-comes : goal.returns-in-Ok-clause-comes
returns-in-Ok-clause-comes c = λ names style. (tt, ap (λ (x : Read Certificate). drawing_with c.args.plan x) (sym c.in-Ok.ensures.answers))

pub returns-in-Err-clause-comes : goal.returns-in-Err-clause-comes
returns-in-Err-clause-comes c = λ names style.
    let found = read c.args.plan c.args.certificate.now in
    inr (inr (drawing_with c.args.plan found, refl, undrawn_with_ends c.args.plan found c.in-Err.fault c.certificate_fault.result c.in-Err.ensures.answers c.certificate_fault.ensures))
