use Rattle.std.proofs.Common.{◌≡◌, None, false, set, sym, ap, subst, ◌∙◌, rules}
use Rattle.std.specs.Prelude.{is_none}
use Rattle.dds_base.specs.declared.events.Event.TheVariants.{Lose}
use Rattle.dds_base.specs.declared.events.Reply.TheVariants.{Dropped}
use Rattle.dds_base.specs.declared.events.Refusal.TheVariants.{NoPacket}
use Rattle.dds_runs.specs.Steps.{is_none_of}
use Rattle.dds_domain.specs.Bus.{at_place}
use Rattle.dds_domain.specs.Standing.{PartsState, StepsNotes, StepsWorld}
use Rattle.dds_domain.specs.View.{view_of}
use Rattle.dds_domain.proofs.Buses.{same_none}
use Rattle.dds_domain.proofs.StepLose.{lose_none, lose_done}
use Rattle.dds_domain.proofs.NotesKept.{lose_kept}
use Rattle.dds_domain.proofs.Steps.{refused_kept, refused_now}
use Rattle.dds_domain.proofs.parts.Parts.lose.Goals as goal

pub returns-then-is_none-clause-steps : goal.returns-then-is_none-clause-steps
returns-then-is_none-clause-steps c =
    let d : PartsState = view_of c.self.inside in
    let none : at_place d.bus c.args.place ≡ None = search rules in
    (refused_now (Lose c.args.place) NoPacket d _ c.self.view_is (lose_none d c.args.place none)).0

pub returns-clause-steps : goal.returns-clause-steps
returns-clause-steps c =
    let d : PartsState = view_of c.self.inside in
    let some : is_none c.at.result ≡ false = search rules in
    let there : is_none_of (at_place d.bus c.args.place) ≡ false = ap is_none_of (sym c.at.ensures) ∙ (sym (same_none c.at.result) ∙ some) in
    rw c.clear.ensures (subst (λ (z : PartsState). StepsWorld z (Lose c.args.place) Dropped (record d { bus = set d.bus c.args.place None })) c.self.view_is (lose_done d c.args.place there))

-- ── notes
pub returns-then-is_none-clause-notes : goal.returns-then-is_none-clause-notes
returns-then-is_none-clause-notes c = refused_kept c.args.self.now (Lose c.args.place) NoPacket

pub returns-clause-notes : goal.returns-clause-notes
returns-clause-notes c =
    let d : PartsState = view_of c.self.inside in
    subst (λ (z : PartsState). StepsNotes z (Lose c.args.place) Dropped (record d { bus = c.clear.new.self })) c.self.view_is (lose_kept d c.args.place c.clear.new.self)
