use Rattle.std.proofs.Common.{◌≡◌, ℕ, None, Some, true, false, set, sym, subst, ◌∙◌, rules}
use Rattle.dds_base.specs.declared.events.Event.TheVariants.{Deliver}
use Rattle.dds_base.specs.declared.events.Refusal.TheVariants.{NoPacket}
use Rattle.dds_base.specs.declared.messages.Packet.{Packet}
use Rattle.dds_domain.specs.Bus.{at_place}
use Rattle.dds_domain.specs.Standing.{PartsState, Receives, ReceivesNotes}
use Rattle.dds_domain.specs.View.{view_of}
use Rattle.dds_domain.proofs.StepDeliver.{sent_at, deliver_none, deliver_kept, deliver_gone}
use Rattle.dds_domain.proofs.Steps.{refused_kept, refused_now}
use Rattle.dds_domain.proofs.NotesReceived.{deliver_noted}
use Rattle.dds_domain.proofs.parts.Parts.deliver.Goals as goal
use Rattle.dds_domain.proofs.parts.Parts.deliver.Goals.{then-not-keep, else-not-keep}

-- the packet is the one at the place
there : (d e : PartsState) (i : ℕ) (p : Packet) → e ≡ d → at_place e.bus i ≡ Some p → at_place d.bus i ≡ Some p
there d e i p same h = subst (λ (z : PartsState). at_place z.bus i ≡ Some p) same h

pub receive-requires : goal.receive-requires
receive-requires c =
    let at = there c.args.self.now (view_of c.self.inside) c.args.place c.in-Some.packet c.self.view_is (sym c.at.ensures ∙ c.in-Some.is) in
    sent_at c.args.self.now c.args.place c.in-Some.packet at c.requires

pub returns-in-None-clause-steps : goal.returns-in-None-clause-steps
returns-in-None-clause-steps c =
    let d : PartsState = view_of c.self.inside in
    let none : at_place d.bus c.args.place ≡ None = search rules in
    (refused_now (Deliver c.args.place c.args.keep) NoPacket d _ c.self.view_is (deliver_none d c.args.place c.args.keep none)).0

pub returns-after-not-keep-clause-steps : goal.returns-after-not-keep-clause-steps
returns-after-not-keep-clause-steps c =
    let d : PartsState = c.args.self.now in
    let new : PartsState = view_of c.self-in-Some.inside in
    let reply = c.in-Ok.reply in
    let at = there c.args.self.now (view_of c.self.inside) c.args.place c.in-Some.packet c.self.view_is (sym c.at.ensures ∙ c.in-Some.is) in
    let received : Receives d c.in-Some.packet c.in-Ok.reply new = subst (λ (z : PartsState). Receives c.args.self.now c.in-Some.packet c.in-Ok.reply z) (sym c.self-in-Some.view_is) c.in-Ok.ensures.receives.0 in
    elim c.if-not-keep.branch [
      | then-not-keep w ↦ (
          let gone : c.args.keep ≡ false = search rules in
          let same : c.if-not-keep.self ≡ record new { bus = set new.bus c.args.place None } = search rules in
          rw (gone, same) (deliver_gone d c.args.place c.in-Some.packet at reply new received))
      | else-not-keep w ↦ (
          let stays : c.args.keep ≡ true = search rules in
          let same : c.if-not-keep.self ≡ new = search rules in
          rw (stays, same) (deliver_kept d c.args.place c.in-Some.packet at reply new received))
    ]

-- ── notes
pub returns-in-None-clause-notes : goal.returns-in-None-clause-notes
returns-in-None-clause-notes c = refused_kept c.args.self.now (Deliver c.args.place c.args.keep) NoPacket

pub returns-after-not-keep-clause-notes : goal.returns-after-not-keep-clause-notes
returns-after-not-keep-clause-notes c =
    let d : PartsState = c.args.self.now in
    let new : PartsState = view_of c.self-in-Some.inside in
    let p : Packet = c.in-Some.packet in
    let reply = c.in-Ok.reply in
    let e = c.in-Ok.ensures in
    let at = there d (view_of c.self.inside) c.args.place p c.self.view_is (sym c.at.ensures ∙ c.in-Some.is) in
    let received : ReceivesNotes d p new = subst (λ (z : PartsState). ReceivesNotes d p z) (sym c.self-in-Some.view_is) e.receives.1 in
    elim c.if-not-keep.branch [
      | then-not-keep w ↦ (
          let same : c.if-not-keep.self ≡ record new { bus = set new.bus c.args.place None } = search rules in
          rw same (deliver_noted d c.args.place c.args.keep p reply new (set new.bus c.args.place None) at e.arrives received))
      | else-not-keep w ↦ (
          let same : c.if-not-keep.self ≡ new = search rules in
          rw same (deliver_noted d c.args.place c.args.keep p reply new new.bus at e.arrives received))
    ]
