use Rattle.std.proofs.Common.{ℕ, length, sym, ap, ◌∙◌, arith}
use Rattle.dds_match.specs.Plan.{is_reader_of, participant_readers}
use Rattle.dds_domain.specs.Schedule.{acknack_due, first_of_reader}
use Rattle.dds_domain.specs.Standing.{PartsState}
use Rattle.dds_domain.proofs.ScheduleDue.{reader_entries}
use Rattle.dds_domain.proofs.SchedulePairs.{first_listed, first_of, listed_found, listed_next, listed_none, listed_passes, reader_is_there}
use Rattle.dds_domain.proofs.parts.Parts.acknack_due.Goals as goal

pub loop-reader-init : goal.loop-reader-init
loop-reader-init c = λ v noted at.
    let plan = c.args.self.now.plan in
    let gives = λ (r : ℕ). first_of_reader plan r (acknack_due noted) in
    let listed = c.readers_at-reader-items.ensures ∙ ap (λ (d : PartsState). participant_readers d.plan c.args.participant) c.self.view_is in
    ap (first_of gives) listed ∙ first_listed (is_reader_of plan c.args.participant) gives (length plan.readers.entries)

pub due_of_reader-requires-clause-reader : goal.due_of_reader-requires-clause-reader
due_of_reader-requires-clause-reader c =
    let d : PartsState = c.args.self.now in
    let count = reader_entries d c.requires in
    let listed = c.readers_at-reader-items.ensures ∙ ap (λ (d : PartsState). participant_readers d.plan c.args.participant) c.self.view_is in
    let own = listed_passes (is_reader_of d.plan c.args.participant) (length d.plan.readers.entries) c.readers_at-reader-items.result.now c.loop-reader.reader-index c.reader-item.result listed c.loop-reader-test.true c.reader-item.is in
    let there = reader_is_there d.plan c.args.participant c.reader-item.result own in
    omega arith

pub returns-in-Some : goal.returns-in-Some
returns-in-Some c = λ v noted at.
    let plan = c.args.self.now.plan in
    let gives = λ (r : ℕ). first_of_reader plan r (acknack_due noted) in
    listed_found gives c.readers_at-reader-items.result.now c.loop-reader.reader-index _ (c.loop-reader.invariant v noted at) c.reader-item.result c.in-Some.event c.loop-reader-test.true c.reader-item.is (c.in-Some.ensures v noted at)

pub loop-reader-preserved : goal.loop-reader-preserved
loop-reader-preserved c = λ v noted at.
    let plan = c.args.self.now.plan in
    let gives = λ (r : ℕ). first_of_reader plan r (acknack_due noted) in
    listed_next gives c.readers_at-reader-items.result.now c.loop-reader.reader-index _ (c.loop-reader.invariant v noted at) c.reader-item.result c.loop-reader-test.true c.reader-item.is (sym c.in_default.is ∙ c.due_of_reader.ensures v noted at)

pub returns : goal.returns
returns c = λ v noted at.
    let plan = c.args.self.now.plan in
    let gives = λ (r : ℕ). first_of_reader plan r (acknack_due noted) in
    listed_none gives c.readers_at-reader-items.result.now c.loop-reader.reader-index _ (c.loop-reader.invariant v noted at) (omega arith)
