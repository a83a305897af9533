use Rattle.std.proofs.Common.{rules, ◌≡◌, List, refl, ap, ◌∙◌, subst}
use Rattle.dds_base.specs.Messages.{HeartbeatFor}
use Rattle.dds_base.specs.declared.sample.Arrival.TheVariants.{Lost}
use Rattle.dds_match.specs.Network.{Network}
use Rattle.dds_match.specs.Plan.{network_of}
use Rattle.dds_runs.specs.Steps.{Event, Reply, Arrived}
use Rattle.dds_domain.specs.Standing.{paired, world_after}
use Rattle.dds_search.specs.Refuted.{BringsWord}
use Rattle.dds_search.proofs.GivenUp.{gives_up}
use Rattle.dds_search.proofs.loss.giving_up.gave_up.Goals as goal

pub returns-in-Arrived-Lost-clause-told : goal.returns-in-Arrived-Lost-clause-told
returns-in-Arrived-Lost-clause-told c = λ stands.
    let net : Network = network_of c.args.simulator.now.plan in
    let ms : List (Event × Reply) = paired c.args.before.now c.args.replies.now in
    let h : HeartbeatFor = record { writer = c.heartbeat.inside.writer; reader = c.heartbeat.inside.reader; first = c.heartbeat.inside.first; last = c.heartbeat.inside.last } in
    let same : c.in-Some.heartbeat ≡ h = search rules in
    let brings : BringsWord net (world_after c.args.simulator.now.plan ms) c.args.last.now c.in-Some.place h =
    subst (λ (x : HeartbeatFor). BringsWord net (world_after c.args.simulator.now.plan ms) c.args.last.now c.in-Some.place x) same (c.in-Some.ensures ms stands) in
    let asks = rw c.in-Some-2.is at c.in_ok-number.ensures.asks in
    let told : c.in_ok-reply.reply ≡ Arrived (Lost c.in-Arrived-Lost.field-0-0) = search rules in
    gives_up net ms c.args.last.now c.in_ok-reply.reply c.in-Some.place c.heartbeat.inside.reader c.in-Some-written_key.key c.in-Some-2.number c.in-Arrived-Lost.field-0-0 h
    c.args.simulator.now c.missing.new.simulator c.step.new.self
    stands refl (ap network_of (c.in_ok-reply.ensures.plan ∙ c.in_ok-number.ensures.plan)) brings (asks ms stands) c.in_ok-reply.ensures.steps refl c.if-number-heartbeat.false c.in-Some-written_key.ensures told
