use Rattle.std.proofs.Common.{ℕ, Some, subst, sym}
use Rattle.std.specs.BTreeMap.{UpdatesBy}
use Rattle.dds_runs.specs.Steps.{Reply, Write}
use Rattle.dds_recap.specs.Recap.{Notes}
use Rattle.dds_recap.specs.Tally.{pair_cmp}
use Rattle.dds_recap.proofs.Following.{unwritten_noted, write_noted}
use Rattle.dds_recap.proofs.recap.Recap.note_write.Goals as goal

pub returns-in_ok-insert : goal.returns-in_ok-insert
returns-in_ok-insert c = λ net payload.
    subst (λ (reply : Reply). Notes net (Write c.args.writer c.args.key payload) reply c.args.self.now (record c.args.self.now { keys = c.insert.new.self })) (sym c.in-Written.is)
    (write_noted net c.args.writer c.args.key c.in-Written.sn payload c.args.self.now c.insert.new.self
    (subst (λ (w : ℕ). UpdatesBy pair_cmp (pair_cmp (w, c.in-Written.sn)) c.args.self.now.keys c.insert.new.self (Some c.args.key)) c.number.ensures
    (subst (λ (k : ℕ). UpdatesBy pair_cmp (pair_cmp (c.number.result, c.in-Written.sn)) c.args.self.now.keys c.insert.new.self (Some k)) c.number-in-Written.ensures c.in_ok-insert.ensures.updates)))

pub returns-in_default : goal.returns-in_default
returns-in_default c = λ net payload. unwritten_noted net c.args.writer c.args.key payload c.args.reply.now c.args.self.now c.in_default.not-Written
