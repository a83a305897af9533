use Rattle.std.proofs.Common.{◌≡◌, ◌∙◌, None, Some, ap, subst, sym}
use Rattle.dds_runs.specs.Steps.{Deliver, Reply}
use Rattle.dds_match.specs.Network.{Network}
use Rattle.dds_recap.specs.Recap.{Notes, place_at}
use Rattle.dds_recap.proofs.Following.{ack_noted, arrival_noted, none_arrives, on_ok_more}
use Rattle.dds_recap.proofs.recap.Recap.note_delivery.Goals as goal

pub returns-in-Some : goal.returns-in-Some
returns-in-Some c =
    let here : Some (c.in-Some.reader, c.in-Some.key) ≡ place_at c.args.self.now c.args.place = cc in
    on_ok_more c.note_arrival.result _ ((net : Network) → Notes net (Deliver c.args.place c.args.keep) c.args.reply.now c.args.self.now c.note_arrival.new.self)
    (λ arrives net.
    subst (λ (reply : Reply). Notes net (Deliver c.args.place c.args.keep) reply c.args.self.now c.note_arrival.new.self) (sym c.in-Arrived.is)
    (arrival_noted net c.args.place c.args.keep (Some (c.in-Some.reader, c.in-Some.key)) c.in-Arrived.arrival c.args.self.now c.clear.new.self c.note_arrival.new.self here c.clear.ensures.same
    c.clear.ensures.places arrives))
    c.note_arrival.ensures

pub returns-in-None : goal.returns-in-None
returns-in-None c = λ net.
    let here : None ≡ place_at c.args.self.now c.args.place = cc in
    subst (λ (reply : Reply). Notes net (Deliver c.args.place c.args.keep) reply c.args.self.now c.clear.new.self) (sym c.in-Arrived.is)
    (arrival_noted net c.args.place c.args.keep None c.in-Arrived.arrival c.args.self.now c.clear.new.self c.clear.new.self here c.clear.ensures.same c.clear.ensures.places
    (none_arrives c.in-Arrived.arrival c.clear.new.self))

pub returns-in-Acked : goal.returns-in-Acked
returns-in-Acked c = λ net.
    subst (λ (reply : Reply). Notes net (Deliver c.args.place c.args.keep) reply c.args.self.now c.clear-in-Acked.new.self) (sym c.in-Acked.is)
    (ack_noted net c.args.place c.args.keep c.args.self.now c.clear-in-Acked.new.self c.clear-in-Acked.ensures.same c.clear-in-Acked.ensures.places)
