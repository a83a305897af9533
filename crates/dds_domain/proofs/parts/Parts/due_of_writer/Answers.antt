use Rattle.std.proofs.Common.{length, sym, ap, ◌∙◌, arith}
use Rattle.dds_match.specs.Network.{matched_readers}
use Rattle.dds_match.specs.Plan.{matched, network_of}
use Rattle.dds_domain.specs.Schedule.{due_to}
use Rattle.dds_domain.specs.Standing.{PartsState}
use Rattle.dds_domain.proofs.SchedulePairs.{first_listed, first_of, listed_found, listed_next, listed_none, listed_passes}
use Rattle.dds_domain.proofs.parts.Parts.due_of_writer.Goals as goal

pub loop-reader-init : goal.loop-reader-init
loop-reader-init c = λ v noted at.
    let plan = c.args.self.now.plan in
    let gives = due_to (network_of plan) v noted c.args.sending c.args.writer in
    let listed = c.readers_of-reader-items.ensures ∙ ap (λ (d : PartsState). matched_readers (network_of d.plan) c.args.writer) c.self.view_is in
    ap (first_of gives) listed ∙ first_listed (matched plan c.args.writer) gives (length plan.readers.entries)

pub due_to-requires-clause-pair : goal.due_to-requires-clause-pair
due_to-requires-clause-pair c =
    let plan = c.args.self.now.plan in
    let listed = c.readers_of-reader-items.ensures ∙ ap (λ (d : PartsState). matched_readers (network_of d.plan) c.args.writer) c.self.view_is in
    listed_passes (matched plan c.args.writer) (length plan.readers.entries) c.readers_of-reader-items.result.now c.loop-reader.reader-index c.reader-item.result listed c.loop-reader-test.true c.reader-item.is

pub returns-in-Some : goal.returns-in-Some
returns-in-Some c = λ v noted at.
    let gives = due_to (network_of c.args.self.now.plan) v noted c.args.sending c.args.writer in
    listed_found gives c.readers_of-reader-items.result.now c.loop-reader.reader-index _ (c.loop-reader.invariant v noted at) c.reader-item.result c.in-Some.event c.loop-reader-test.true c.reader-item.is (c.in-Some.ensures v noted at)

pub loop-reader-preserved : goal.loop-reader-preserved
loop-reader-preserved c = λ v noted at.
    let gives = due_to (network_of c.args.self.now.plan) v noted c.args.sending c.args.writer in
    listed_next gives c.readers_of-reader-items.result.now c.loop-reader.reader-index _ (c.loop-reader.invariant v noted at) c.reader-item.result c.loop-reader-test.true c.reader-item.is (sym c.in_default.is ∙ c.due_to.ensures v noted at)

pub returns : goal.returns
returns c = λ v noted at.
    let gives = due_to (network_of c.args.self.now.plan) v noted c.args.sending c.args.writer in
    listed_none gives c.readers_of-reader-items.result.now c.loop-reader.reader-index _ (c.loop-reader.invariant v noted at) (omega arith)
