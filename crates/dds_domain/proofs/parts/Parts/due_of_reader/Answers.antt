use Rattle.std.proofs.Common.{◌≡◌, true, false, length, get_or, ap, ◌∙◌, rules, arith}
use Rattle.dds_match.specs.Network.{matched_writers}
use Rattle.dds_match.specs.Plan.{matched, network_of}
use Rattle.dds_base.specs.declared.events.Event.TheVariants.{SendAckNack}
use Rattle.dds_reader.specs.Reader.{ReaderState, owes_to}
use Rattle.dds_domain.specs.Schedule.{acknack_due}
use Rattle.dds_domain.specs.Standing.{PartsState}
use Rattle.dds_domain.proofs.ScheduleDue.{acknack_is_due, no_acknack_due}
use Rattle.dds_domain.proofs.SchedulePairs.{first_listed, first_of, listed_found, listed_next, listed_none, listed_passes}
use Rattle.dds_domain.proofs.parts.Parts.due_of_reader.Goals as goal

pub loop-writer-init : goal.loop-writer-init
loop-writer-init c = λ v noted at.
    let plan = c.args.self.now.plan in
    let listed = c.writers_of-writer-items.ensures ∙ ap (λ (d : PartsState). matched_writers (network_of d.plan) c.args.reader) c.self.view_is in
    ap (first_of (acknack_due noted c.args.reader)) listed ∙ first_listed (λ w. matched plan w c.args.reader) (acknack_due noted c.args.reader) (length plan.writers.entries)

pub returns-then-owes : goal.returns-then-owes
returns-then-owes c = λ v noted at.
    let d : PartsState = c.args.self.now in
    let r = c.args.reader in
    let w = c.writer-item.result in
    let x : ReaderState = c.index-from.result.now in
    let here : x ≡ get_or d.readers r x = search rules in
    let listed = c.writers_of-writer-items.ensures ∙ ap (λ (d : PartsState). matched_writers (network_of d.plan) c.args.reader) c.self.view_is in
    let pair : matched d.plan w r ≡ true = listed_passes (λ i. matched d.plan i r) (length d.plan.writers.entries) c.writers_of-writer-items.result.now c.loop-writer.writer-index w listed c.loop-writer-test.true c.writer-item.is in
    let owed : owes_to x w ≡ true = search rules in
    listed_found (acknack_due noted r) c.writers_of-writer-items.result.now c.loop-writer.writer-index _ (c.loop-writer.invariant v noted at) w (SendAckNack r w) c.loop-writer-test.true c.writer-item.is
    (acknack_is_due d w r x pair c.requires.reader here owed v noted at)

pub loop-writer-preserved : goal.loop-writer-preserved
loop-writer-preserved c = λ v noted at.
    let d : PartsState = c.args.self.now in
    let r = c.args.reader in
    let w = c.writer-item.result in
    let x : ReaderState = c.index-from.result.now in
    let here : x ≡ get_or d.readers r x = search rules in
    let listed = c.writers_of-writer-items.ensures ∙ ap (λ (d : PartsState). matched_writers (network_of d.plan) c.args.reader) c.self.view_is in
    let pair : matched d.plan w r ≡ true = listed_passes (λ i. matched d.plan i r) (length d.plan.writers.entries) c.writers_of-writer-items.result.now c.loop-writer.writer-index w listed c.loop-writer-test.true c.writer-item.is in
    let none : owes_to x w ≡ false = search rules in
    listed_next (acknack_due noted r) c.writers_of-writer-items.result.now c.loop-writer.writer-index _ (c.loop-writer.invariant v noted at) w c.loop-writer-test.true c.writer-item.is
    (no_acknack_due d w r x pair c.requires.reader here none v noted at)

pub returns : goal.returns
returns c = λ v noted at.
    listed_none (acknack_due noted c.args.reader) c.writers_of-writer-items.result.now c.loop-writer.writer-index _ (c.loop-writer.invariant v noted at) (omega arith)
