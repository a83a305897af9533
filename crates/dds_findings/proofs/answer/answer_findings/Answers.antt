use Rattle.std.proofs.Common.{◌≡◌, IfOk}
use Rattle.dds_findings.proofs.Agreement.{answers_as_check}
use Rattle.dds_findings.proofs.answer.answer_findings.Goals as goal

-- the answer agrees with the check of the same bytes as the findings do
pub returns-clause-agrees : goal.returns-clause-agrees
returns-clause-agrees c = λ d x agrees.
    answers_as_check (λ a. IfOk c.findings_text.result (λ t. a.text ≡ t)) c.args.deny.now d x c.args.findings.now c.is_clean-is_yes.result c.answer_with.result
    c.is_clean-is_yes.ensures c.answer_with.ensures.answer agrees
