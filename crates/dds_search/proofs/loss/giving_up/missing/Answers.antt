use Rattle.std.proofs.Common.{rules, ◌≡◌, List, [], ◌∷◌, ◌++◌, Some, ap, subst, arith}
use Rattle.dds_base.specs.declared.messages.Packet.TheVariants.{AckNack}
use Rattle.dds_match.specs.Plan.{network_of}
use Rattle.dds_runs.specs.Steps.{Event, Reply, SendAckNack, Sent}
use Rattle.dds_domain.specs.Standing.{GoesOn, StandsAfter}
use Rattle.dds_search.proofs.GivenUp.{misses}
use Rattle.dds_search.proofs.loss.giving_up.missing.Goals as goal

pub returns-in-Some-AckNack-clause-asks : goal.returns-in-Some-AckNack-clause-asks
unfolding GoesOn
returns-in-Some-AckNack-clause-asks c = λ ms stands.
    let reply : c.in_ok-asked.field-0 ≡ Sent (Some c.in-Sent-Some.asked) = search rules in
    let more : List (Event × Reply) = ms ++ (SendAckNack c.args.reader c.args.writer, Sent (Some c.in-Sent-Some.asked)) ∷ [] in
    let after : StandsAfter more c.step.new.self =
    subst (λ (q : Reply). StandsAfter (ms ++ (SendAckNack c.args.reader c.args.writer, q) ∷ []) c.step.new.self) reply (c.in_ok-asked.ensures.steps ms stands) in
    let kind : c.in-Some-AckNack.field-0.now ≡ AckNack c.in-Some-AckNack.acknack = search rules in
    misses (network_of c.args.simulator.now.plan) ms c.args.place c.args.reader c.args.writer c.in-Sent-Some.asked c.base-in-Some-AckNack.result
    c.in-Some-AckNack.field-0.now c.in-Some-AckNack.acknack c.step.new.self
    after (ap network_of c.in_ok-asked.ensures.plan) c.if-asked-place.false (c.in-Some-AckNack.ensures more after) kind c.base-in-Some-AckNack.ensures.base (omega arith)
