use Rattle.std.proofs.Common.{Some, ◌∙◌, ap, subst, sym}
use Rattle.dds_runs.specs.Steps.{Reply, SendAckNack, SendGap, SendHeartbeat, Sent, acknack_packet, gap_packet, heartbeat_packet}
use Rattle.dds_recap.specs.Recap.{Notes}
use Rattle.dds_recap.proofs.Following.{none_sent, other_noted, sends_acknack, sends_gap, sends_heartbeat}
use Rattle.dds_recap.proofs.recap.Recap.note_sent.Goals as goal

pub returns-in_default : goal.returns-in_default
returns-in_default c = record {
  gap = λ net w r n.
      none_sent net (SendGap w r n) (λ v. gap_packet net v w r n) c.args.reply.now c.args.self.now (sends_gap net w r n) (λ i is. c.in_default.not-Sent (Some i) is);
  heartbeat = λ net w r.
      none_sent net (SendHeartbeat w r) (λ v. heartbeat_packet net v w r) c.args.reply.now c.args.self.now (sends_heartbeat net w r) (λ i is. c.in_default.not-Sent (Some i) is);
  acknack = λ net r w.
      none_sent net (SendAckNack r w) (λ v. acknack_packet v r w) c.args.reply.now c.args.self.now (sends_acknack net r w) (λ i is. c.in_default.not-Sent (Some i) is);
}

pub returns-clause-gap : goal.returns-clause-gap
returns-clause-gap c = λ net w r n.
    let old = c.args.self.now in
    subst (λ (reply : Reply). Notes net (SendGap w r n) reply old (record old { places = c.remove.new.self })) (sym (c.in-Sent.is ∙ ap Sent c.in-Some.is))
    (other_noted net (SendGap w r n) (λ v. gap_packet net v w r n) c.in-Some.place old c.remove.new.self (sends_gap net w r n) c.remove.ensures.updates)
