use Rattle.std.proofs.Common.{subst, sym}
use Rattle.dds_match.specs.Plan.{network_of}
use Rattle.dds_runs.specs.Steps.{Event}
use Rattle.dds_recap.specs.Recap.{Notes}
use Rattle.dds_recap.proofs.Following.{on_ok_more}
use Rattle.dds_recap.proofs.recap.Recap.note.Goals as goal

pub returns-in-Write : goal.returns-in-Write
returns-in-Write c =
    let net = network_of c.args.plan.now in
    on_ok_more c.note_write.result _ (Notes net c.args.event.now c.args.reply.now c.args.self.now c.note_write.new.self)
    (λ notes. subst (λ (e : Event). Notes net e c.args.reply.now c.args.self.now c.note_write.new.self) (sym c.in-Write.is) (notes net c.in-Write.payload)) c.note_write.ensures

pub returns-in-Take : goal.returns-in-Take
returns-in-Take c =
    let net = network_of c.args.plan.now in
    on_ok_more c.note_take.result _ (Notes net c.args.event.now c.args.reply.now c.args.self.now c.note_take.new.self)
    (λ notes. subst (λ (e : Event). Notes net e c.args.reply.now c.args.self.now c.note_take.new.self) (sym c.in-Take.is) (notes net c.in-Take.key)) c.note_take.ensures

pub returns-in-SendData : goal.returns-in-SendData
returns-in-SendData c =
    let net = network_of c.args.plan.now in
    on_ok_more c.note_data.result _ (Notes net c.args.event.now c.args.reply.now c.args.self.now c.note_data.new.self)
    (λ notes. subst (λ (e : Event). Notes net e c.args.reply.now c.args.self.now c.note_data.new.self) (sym c.in-SendData.is) (notes net)) c.note_data.ensures

pub returns-in-Deliver : goal.returns-in-Deliver
returns-in-Deliver c =
    let net = network_of c.args.plan.now in
    on_ok_more c.note_delivery.result _ (Notes net c.args.event.now c.args.reply.now c.args.self.now c.note_delivery.new.self)
    (λ notes. subst (λ (e : Event). Notes net e c.args.reply.now c.args.self.now c.note_delivery.new.self) (sym c.in-Deliver.is) (notes net)) c.note_delivery.ensures

pub returns-in-SendGap : goal.returns-in-SendGap
returns-in-SendGap c =
    let net = network_of c.args.plan.now in
    subst (λ (e : Event). Notes net e c.args.reply.now c.args.self.now c.note_sent.new.self) (sym c.in-SendGap.is)
    (c.note_sent.ensures.gap net c.in-SendGap.writer c.in-SendGap.reader c.in-SendGap.start)

pub returns-in-SendHeartbeat : goal.returns-in-SendHeartbeat
returns-in-SendHeartbeat c =
    let net = network_of c.args.plan.now in
    subst (λ (e : Event). Notes net e c.args.reply.now c.args.self.now c.note_sent-in-SendHeartbeat.new.self) (sym c.in-SendHeartbeat.is)
    (c.note_sent-in-SendHeartbeat.ensures.heartbeat net c.in-SendHeartbeat.writer c.in-SendHeartbeat.reader)

pub returns-in-SendAckNack : goal.returns-in-SendAckNack
returns-in-SendAckNack c =
    let net = network_of c.args.plan.now in
    subst (λ (e : Event). Notes net e c.args.reply.now c.args.self.now c.note_sent-in-SendAckNack.new.self) (sym c.in-SendAckNack.is)
    (c.note_sent-in-SendAckNack.ensures.acknack net c.in-SendAckNack.reader c.in-SendAckNack.writer)

pub returns-in-Lose : goal.returns-in-Lose
returns-in-Lose c =
    let net = network_of c.args.plan.now in
    subst (λ (e : Event). Notes net e c.args.reply.now c.args.self.now c.note_loss.new.self) (sym c.in-Lose.is) (c.note_loss.ensures net)
