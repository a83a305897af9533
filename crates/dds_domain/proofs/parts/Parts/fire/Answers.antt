use Rattle.std.proofs.Common.{◌≡◌, ◌<◌, ◌≤◌, length, None, Some, refl, subst, rules}
use Rattle.dds_base.specs.declared.events.Event.TheVariants.{Fire}
use Rattle.dds_base.specs.declared.events.Reply.TheVariants.{Refused, Fired}
use Rattle.dds_base.specs.declared.events.Refusal.TheVariants.{Foreign, NotEnough, CountLimit}
use Rattle.dds_runs.specs.CountRuns.CountMove.{Fires}
use Rattle.dds_rules.specs.declared.refused.FireRefused.TheVariants.{NotEnough as TooFew, CountLimit as TooMany}
use Rattle.dds_rules.specs.Ledger.{fire_refusal}
use Rattle.dds_rules.specs.Standing.{Makes}
use Rattle.dds_domain.specs.Standing.{PartsState, StepsNotes, StepsWorld}
use Rattle.dds_domain.specs.View.{view_of}
use Rattle.dds_domain.proofs.StepFire.{fire_foreign, fire_refused, fire_done}
use Rattle.dds_domain.proofs.NotesKept.{fire_kept}
use Rattle.dds_domain.proofs.Steps.{refused_kept, refused_now, renamed}
use Rattle.dds_domain.proofs.parts.Parts.fire.Goals as goal
use Rattle.dds_domain.proofs.parts.Parts.fire.Goals.{in-Ok, in-Err-NotEnough, in-Err-CountLimit}

pub returns-then-number-rules-clause-steps : goal.returns-then-number-rules-clause-steps
returns-then-number-rules-clause-steps c =
    let d : PartsState = view_of c.self.inside in
    let past : length d.plan.rules.entries ≤ c.args.rule = search rules in
    (refused_now (Fire c.args.rule) Foreign d _ c.self.view_is (fire_foreign d c.args.rule past)).0

pub returns-clause-steps : goal.returns-clause-steps
returns-clause-steps c =
    let d : PartsState = view_of c.self.inside in
    let there : c.args.rule < length d.plan.rules.entries = search rules in
    elim c.match-fire.branch [
      | in-Ok w ↦ (
          let none : fire_refusal d.ledger c.args.rule ≡ None = search rules in
          let makes : Makes (Fires c.args.rule) d.ledger c.fire.new.self = search rules in
          let step = fire_done d c.args.rule there none c.fire.new.self makes in
          rw w.result-is (subst (λ (z : PartsState). StepsWorld z (Fire c.args.rule) Fired (record d { ledger = c.fire.new.self })) c.self.view_is step))
      | in-Err-NotEnough w ↦ (
          let why : fire_refusal d.ledger c.args.rule ≡ Some TooFew = search rules in
          let same : c.fire.new.self ≡ d.ledger = search rules in
          let step = fire_refused d c.args.rule there TooFew why in
          rw (w.result-is, same) (subst (λ (z : PartsState). StepsWorld z (Fire c.args.rule) (Refused NotEnough) d) c.self.view_is step))
      | in-Err-CountLimit w ↦ (
          let why : fire_refusal d.ledger c.args.rule ≡ Some TooMany = search rules in
          let same : c.fire.new.self ≡ d.ledger = search rules in
          let step = fire_refused d c.args.rule there TooMany why in
          rw (w.result-is, same) (subst (λ (z : PartsState). StepsWorld z (Fire c.args.rule) (Refused CountLimit) d) c.self.view_is step))
    ]

-- ── notes
pub returns-then-number-rules-clause-notes : goal.returns-then-number-rules-clause-notes
returns-then-number-rules-clause-notes c = refused_kept c.args.self.now (Fire c.args.rule) Foreign

pub returns-clause-notes : goal.returns-clause-notes
returns-clause-notes c =
    let d : PartsState = view_of c.self.inside in
    let new : PartsState = record d { ledger = c.fire.new.self } in
    let left : c.fire.new.self ≡ d.ledger → new ≡ d = λ e i. record d { ledger = e i } in
    elim c.match-fire.branch [
      | in-Ok w ↦ renamed (λ old reply new. StepsNotes old (Fire c.args.rule) reply new) d _ _ _ new _ c.self.view_is w.result-is refl (fire_kept d c.args.rule c.fire.new.self)
      | in-Err-NotEnough w ↦ (
          let same : c.fire.new.self ≡ d.ledger = search rules in
          renamed (λ old reply new. StepsNotes old (Fire c.args.rule) reply new) d _ _ _ d _ c.self.view_is w.result-is (left same) (refused_kept d (Fire c.args.rule) NotEnough))
      | in-Err-CountLimit w ↦ (
          let same : c.fire.new.self ≡ d.ledger = search rules in
          renamed (λ old reply new. StepsNotes old (Fire c.args.rule) reply new) d _ _ _ d _ c.self.view_is w.result-is (left same) (refused_kept d (Fire c.args.rule) CountLimit))
    ]
