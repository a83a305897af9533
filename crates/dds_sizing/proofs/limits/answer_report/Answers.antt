use Rattle.std.proofs.Common.{IfOk, List, subst}
use Rattle.dds_match.specs.Plan.{network_of}
use Rattle.dds_search.specs.declared.certificate.sizes.Size.{Size}
use Rattle.dds_sizing.specs.Limits.{IsSaid, needs_told, reasons_told}
use Rattle.dds_sizing.specs.Needs.{are_met, needs_of}
use Rattle.dds_sizing.specs.Reasons.{sizes_of}
use Rattle.dds_sizing.specs.declared.reasons.Explained.{Explained}
use Rattle.dds_sizing.proofs.LimitEnds.{said_end}
use Rattle.dds_sizing.proofs.limits.answer_report.Goals as goal

pub returns-in-Bounds-clause-gives : goal.returns-in-Bounds-clause-gives
returns-in-Bounds-clause-gives c =
    let d = c.args.plan.now in
    let needs = needs_of (network_of d) c.in-Bounds.sizes.items in
    let said =
    subst (λ (sizes : List Size). IfOk c.answer_bounds.result (IsSaid (needs_told c.args.style d (needs_of (network_of d) sizes)) (are_met (needs_of (network_of d) sizes))))
    c.as_slice.ensures.value c.answer_bounds.ensures.said in
    rw c.in-Bounds.is (said_end (needs_told c.args.style d needs) (are_met needs) c.answer_bounds.result said c.answer_bounds.ensures.memory)

pub returns-in-Reasons-clause-gives : goal.returns-in-Reasons-clause-gives
returns-in-Reasons-clause-gives c =
    let d = c.args.plan.now in
    let es = c.in-Reasons.explained.items in
    let needs = needs_of (network_of d) (sizes_of es) in
    let said =
    subst
    (λ (xs : List Explained). IfOk c.answer_reasons.result (IsSaid (reasons_told c.args.style d xs (needs_of (network_of d) (sizes_of xs))) (are_met (needs_of (network_of d) (sizes_of xs)))))
    c.as_slice-in-Reasons.ensures.value c.answer_reasons.ensures.said in
    rw c.in-Reasons.is (said_end (reasons_told c.args.style d es needs) (are_met needs) c.answer_reasons.result said c.answer_reasons.ensures.memory)

pub returns-in-Certificate-clause-gives : goal.returns-in-Certificate-clause-gives
returns-in-Certificate-clause-gives c = rw c.in-Certificate.is c.answer_sizes.ensures.gives
