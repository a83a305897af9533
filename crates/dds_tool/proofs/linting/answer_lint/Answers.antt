use Rattle.std.proofs.Common.{◌≡◌, IfOk, List, string_bytes, subst}
use Rattle.dds_findings.specs.Answers.{findings_text, is_clean}
use Rattle.dds_findings.specs.declared.finding.Finding.{Finding}
use Rattle.dds_tool.proofs.Outcomes.{said_gives}
use Rattle.dds_tool.proofs.linting.answer_lint.Goals as goal

pub returns-clause-gives : goal.returns-clause-gives
returns-clause-gives c =
    let found = c.args.findings.items in
    let denied = c.args.deny in
    let names = c.args.names.now in
    let r = c.answer_findings.result in
    let text = subst (λ (xs : List Finding). IfOk r (λ a. string_bytes a.text ≡ findings_text c.args.form names denied xs)) c.as_slice.ensures.value c.answer_findings.ensures.text in
    let yes = subst (λ (xs : List Finding). IfOk r (λ a. a.is_yes ≡ is_clean denied xs)) c.as_slice.ensures.value c.answer_findings.ensures.yes in
    said_gives (findings_text c.args.form names denied found) (is_clean denied found) r text yes c.answer_findings.ensures.memory
