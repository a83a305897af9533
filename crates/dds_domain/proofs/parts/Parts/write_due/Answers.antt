use Rattle.std.proofs.Common.{ℕ, length, sym, ap, ◌∙◌, arith}
use Rattle.dds_match.specs.Plan.{is_writer_of, network_of, participant_writers}
use Rattle.dds_domain.specs.Schedule.{due_to, first_of_writer}
use Rattle.dds_domain.specs.Standing.{PartsState}
use Rattle.dds_domain.proofs.SchedulePairs.{first_listed, first_of, listed_found, listed_next, listed_none}
use Rattle.dds_domain.proofs.parts.Parts.write_due.Goals as goal

pub loop-writer-init : goal.loop-writer-init
loop-writer-init c = λ v noted at.
    let plan = c.args.self.now.plan in
    let gives = λ (w : ℕ). first_of_writer plan w (due_to (network_of plan) v noted c.args.sending) in
    let listed = c.writers_at-writer-items.ensures ∙ ap (λ (d : PartsState). participant_writers d.plan c.args.participant) c.self.view_is in
    ap (first_of gives) listed ∙ first_listed (is_writer_of plan c.args.participant) gives (length plan.writers.entries)

pub returns-in-Some : goal.returns-in-Some
returns-in-Some c = λ v noted at.
    let plan = c.args.self.now.plan in
    let gives = λ (w : ℕ). first_of_writer plan w (due_to (network_of plan) v noted c.args.sending) in
    listed_found gives c.writers_at-writer-items.result.now c.loop-writer.writer-index _ (c.loop-writer.invariant v noted at) c.writer-item.result c.in-Some.event c.loop-writer-test.true c.writer-item.is (c.in-Some.ensures v noted at)

pub loop-writer-preserved : goal.loop-writer-preserved
loop-writer-preserved c = λ v noted at.
    let plan = c.args.self.now.plan in
    let gives = λ (w : ℕ). first_of_writer plan w (due_to (network_of plan) v noted c.args.sending) in
    listed_next gives c.writers_at-writer-items.result.now c.loop-writer.writer-index _ (c.loop-writer.invariant v noted at) c.writer-item.result c.loop-writer-test.true c.writer-item.is (sym c.in_default.is ∙ c.due_of_writer.ensures v noted at)

pub returns : goal.returns
returns c = λ v noted at.
    let plan = c.args.self.now.plan in
    let gives = λ (w : ℕ). first_of_writer plan w (due_to (network_of plan) v noted c.args.sending) in
    listed_none gives c.writers_at-writer-items.result.now c.loop-writer.writer-index _ (c.loop-writer.invariant v noted at) (omega arith)
