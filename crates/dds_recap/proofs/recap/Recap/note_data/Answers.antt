use Rattle.std.proofs.Common.{ℕ, Some, ◌∙◌, ap, subst, sym}
use Rattle.std.specs.Prelude.{unwrap_or}
use Rattle.std.specs.Ordering.{nat_cmp}
use Rattle.std.specs.BTreeMap.{UpdatesBy}
use Rattle.dds_runs.specs.Steps.{Reply, SendData, Sent}
use Rattle.dds_recap.specs.Recap.{Notes, key_at}
use Rattle.dds_recap.proofs.Following.{data_noted, same_place, sends_data}
use Rattle.dds_recap.proofs.recap.Recap.note_data.Goals as goal

pub returns-in_default : goal.returns-in_default
returns-in_default c = λ net. sends_data net c.args.writer c.args.reader c.args.sn c.args.reply.now c.args.self.now (λ i is. c.in_default.not-Sent (Some i) is)

pub returns-in_default-place : goal.returns-in_default-place
returns-in_default-place c = λ net.
    sends_data net c.args.writer c.args.reader c.args.sn c.args.reply.now c.args.self.now (λ i is. c.in_default-place.not-Some i (same_place c.in-Sent.place (Some i) (sym c.in-Sent.is ∙ is)))

pub returns : goal.returns
returns c = λ net.
    let old = c.args.self.now in
    let new = c.insert.new.self in
    subst (λ (reply : Reply). Notes net (SendData c.args.writer c.args.reader c.args.sn) reply old (record old { places = new })) (sym (c.in-Sent.is ∙ ap Sent c.in-Some.is))
    (data_noted net c.args.writer c.args.reader c.args.sn c.key_at-key.result c.in-Some.place old new
    (c.key_at-key.ensures ∙ ap (λ (w : ℕ). unwrap_or (key_at old w c.args.sn) 0) c.number.ensures)
    (subst (λ (r : ℕ). UpdatesBy nat_cmp (nat_cmp c.in-Some.place) old.places new (Some (r, c.key_at-key.result))) c.number-2.ensures c.in_ok-insert.ensures.updates))
