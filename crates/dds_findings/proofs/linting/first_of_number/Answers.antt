use Rattle.std.proofs.Common.{rules, ◌∙◌, ap, sym, ◌<◌, ◌≤◌, length}
use Rattle.dds_findings.specs.Findings.{has_number}
use Rattle.dds_findings.proofs.Listed.{first_added, first_full, first_passed}
use Rattle.dds_findings.proofs.linting.first_of_number.Goals as goal
use Rattle.dds_findings.proofs.linting.first_of_number.Goals.{then-len-lt-LISTED+then-has_number+in_ok-push, else-len-lt-LISTED, else-len-lt-LISTED-via-then-len-lt-LISTED+else-has_number, else-len-lt-LISTED-via-else-len-lt-LISTED}

pub loop-no-preserved : goal.loop-no-preserved
loop-no-preserved c =
    let p = has_number c.args.number in
    let nos = c.args.nos.now in
    let first = c.loop-no.first.items in
    let inside : c.loop-no.no-index < length nos = search rules in
    elim c.if-len-lt-LISTED.branch [
      | then-len-lt-LISTED+then-has_number+in_ok-push w ↦
          let room : length first < 1000 = search rules in
          ap (λ v. v.items) w.first-is ∙ (w.in_ok-push.ensures.items
          ∙ first_added p nos first c.loop-no.no-index c.no-item.result inside c.no-item.is c.loop-no.invariant room (sym w.has_number.ensures ∙ w.if-has_number.true))
      | else-len-lt-LISTED w ↦ elim w.else-len-lt-LISTED.branch [
        | else-len-lt-LISTED-via-then-len-lt-LISTED+else-has_number v ↦
            ap (λ v. v.items) w.first-is
            ∙ first_passed p nos first c.loop-no.no-index c.no-item.result inside c.no-item.is c.loop-no.invariant (sym v.has_number.ensures ∙ v.if-has_number.false)
        | else-len-lt-LISTED-via-else-len-lt-LISTED v ↦
            let full : 1000 ≤ length first = search rules in
            ap (λ v. v.items) w.first-is ∙ first_full p nos first c.loop-no.no-index c.no-item.result inside c.loop-no.invariant full
      ]
    ]
