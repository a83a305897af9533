use Rattle.std.proofs.Common.{ℕ, ◌∙◌, ◌++◌, List, ap, slice_index}
use Rattle.dds_match.specs.Plan.{network_of}
use Rattle.dds_weights.specs.Views.{certificate_view}
use Rattle.dds_lint.specs.Notes.{all_notes}
use Rattle.dds_lint.specs.declared.notes.Note.{Note}
use Rattle.dds_lint.proofs.FiringRounds.{limits_of_are, notes_of_limits}
use Rattle.dds_lint.proofs.notes.all_notes.Goals as goal

pub returns-clause-limits : goal.returns-clause-limits
returns-clause-limits c = limits_of_are (network_of c.args.plan.now)

pub returns-in_err-limits-clause-limits : goal.returns-in_err-limits-clause-limits
returns-in_err-limits-clause-limits c = limits_of_are (network_of c.args.plan.now)

pub returns-in_err-push_all-clause-limits : goal.returns-in_err-push_all-clause-limits
returns-in_err-push_all-clause-limits c = limits_of_are (network_of c.args.plan.now)

pub returns-clause-all : goal.returns-clause-all
returns-clause-all c =
    let limit = slice_index c.in_ok-limits.limits in
    let cert = certificate_view c.args.certificate.now in
    c.in_ok-push_all.ensures
    ∙ (ap (λ (old : List Note). old ++ all_notes c.args.plan.now limit cert) c.new-notes.ensures.items ∙ notes_of_limits c.args.plan.now limit cert c.in_ok-limits.ensures)
