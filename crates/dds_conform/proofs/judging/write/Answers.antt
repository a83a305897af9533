use Rattle.std.proofs.Common.{sym, ◌∙◌, arith}
use Rattle.dds_match.specs.Plan.{network_of}
use Rattle.dds_conform.proofs.Reaching.{reached_free, reached_paid}
use Rattle.dds_conform.proofs.judging.write.Goals as goal

pub returns-then-is_free : goal.returns-then-is_free
returns-then-is_free c = λ actions r. reached_free (network_of c.args.plan.now) actions c.args.ledger.now r c.args.writer c.args.key c.requires.known (sym c.is_free.ensures ∙ c.if-is_free.true)

pub returns : goal.returns
returns c = λ actions r. reached_paid (network_of c.args.plan.now) actions c.args.ledger.now r c.args.writer c.args.key c.pay.new.ledger c.requires.known (sym c.is_free.ensures ∙ c.if-is_free.false)
    (λ e. absurd (omega arith)) c.pay.ensures
