use Rattle.std.proofs.Common.{◌≡◌, ◌≤◌, ◌<◌, IfOk, List, ℕ, length, refl, string_bytes, subst, arith}
use Rattle.dds_answers.specs.Reading.{most_bytes}
use Rattle.dds_json.proofs.Ends.{line_gives}
use Rattle.dds_sizing.specs.Limits.{none_told, text_told}
use Rattle.dds_weights.specs.Text.{certificate_text}
use Rattle.dds_weights.specs.Views.{certificate_view}
use Rattle.dds_sizing.proofs.LimitEnds.{claim_long, claim_short, said_end}
use Rattle.dds_sizing.proofs.limits.answer_claim.Goals as goal

pub returns-then-length-le-MAX_FILE-clause-gives : goal.returns-then-length-le-MAX_FILE-clause-gives
returns-then-length-le-MAX_FILE-clause-gives c =
    let cert = certificate_view c.args.certificate.now in
    let b = c.args.is_met in
    let short : length (string_bytes c.in-Ok.text) ≤ most_bytes = omega (arith, c.len-length.ensures, c.if-length-le-MAX_FILE.true) in
    let told = subst (λ (text : List ℕ). IfOk c.claim_text.result (λ t. string_bytes t ≡ text_told c.args.style text b)) c.in-Ok.ensures c.claim_text.ensures in
    claim_short c.args.style c.args.plan.now b cert c.answer_with.result (subst (λ (text : List ℕ). length text ≤ most_bytes) c.in-Ok.ensures short)
    (line_gives c.claim_text.result c.answer_with.result (text_told c.args.style (certificate_text c.args.plan.now cert) b) b b refl c.answer_with.ensures.answer
    c.answer_with.ensures.text c.answer_with.ensures.memory told)

pub returns-clause-gives : goal.returns-clause-gives
returns-clause-gives c =
    let cert = certificate_view c.args.certificate.now in
    let long : most_bytes < length (string_bytes c.in-Ok.text) = omega (arith, c.len-length.ensures, c.if-length-le-MAX_FILE.false) in
    claim_long c.args.style c.args.plan.now c.args.is_met cert c.answer_none.result (subst (λ (text : List ℕ). most_bytes < length text) c.in-Ok.ensures long)
    (said_end (none_told c.args.style) _ c.answer_none.result c.answer_none.ensures.said c.answer_none.ensures.memory)
