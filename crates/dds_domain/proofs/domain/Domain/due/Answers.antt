use Rattle.std.proofs.Common.{Option, subst, sym}
use Rattle.std.specs.Prelude.{◌≡◌, IfSome, None}
use Rattle.dds_runs.specs.Steps.{Event, refusal}
use Rattle.dds_match.specs.Plan.{network_of}
use Rattle.dds_domain.specs.Schedule.{due}
use Rattle.dds_domain.specs.Standing.{DomainState, IsAt}
use Rattle.dds_domain.proofs.Standing.{is_running}
use Rattle.dds_domain.proofs.Turns.{due_lawful}
use Rattle.dds_domain.proofs.domain.Domain.due.Goals as goal

pub due-requires : goal.due-requires
due-requires c = is_running _ c.self.invariant

pub returns-clause-lawful : goal.returns-clause-lawful
returns-clause-lawful c = λ v noted at.
    let d : DomainState = c.args.self.now in
    let here = subst (IsAt v noted) (sym c.self.view_is) at in
    let named = subst (λ (x : DomainState). c.due.result ≡ due x.checked.plan v noted c.args.participant c.args.turn c.args.fate) c.self.view_is (c.due.ensures v noted here) in
    subst (λ (o : Option Event). IfSome o (λ e. refusal (network_of d.checked.plan) v e ≡ None)) (sym named)
    (due_lawful d.checked.plan v noted c.args.participant c.args.turn c.args.fate at.reached)
