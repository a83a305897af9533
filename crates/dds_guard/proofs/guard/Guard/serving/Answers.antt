use Rattle.std.proofs.Common.{Some, sym, ap, ◌∙◌, subst, arith}
use Rattle.dds_guard.specs.Guard.{GuardState}
use Rattle.dds_guard.specs.Refusals.{IsServing, serves, serving}
use Rattle.dds_guard.proofs.Serving.{first_at, none_at_end, none_more}
use Rattle.dds_guard.proofs.Soundness.{is_serving}
use Rattle.dds_guard.proofs.guard.Guard.serving.Goals as goal

pub loop-u-preserved : goal.loop-u-preserved
loop-u-preserved c = none_more (serves c.self.inside.account.ledger c.args.writer c.args.key) c.self.inside.rules.items c.loop-u.u c.index-rule.result.now (omega arith) c.index-rule.ensures
    c.loop-u.invariant (sym c.serves.ensures ∙ c.if-serves.false)

pub returns-then-serves-clause-first : goal.returns-then-serves-clause-first
returns-then-serves-clause-first c = ap Some c.new.ensures
    ∙ first_at (serves c.self.inside.account.ledger c.args.writer c.args.key) c.self.inside.rules.items c.loop-u.u c.index-rule.result.now (omega arith) c.index-rule.ensures c.loop-u.invariant (sym c.serves.ensures ∙ c.if-serves.true)
    ∙ ap (λ (g : GuardState). serving g c.args.writer c.args.key) c.self.view_is

pub returns-then-serves-clause-ready : goal.returns-then-serves-clause-ready
returns-then-serves-clause-ready c = subst (IsServing c.args.self.now c.args.writer c.args.key) (sym c.new.ensures)
    (subst (λ (g : GuardState). IsServing g c.args.writer c.args.key c.loop-u.u) c.self.view_is
    (is_serving (record { ledger = c.self.inside.account.ledger; held = c.self.inside.account.held; writers = c.self.inside.writers.items; filters = c.self.inside.filters.items; rules = c.self.inside.rules.items; names = c.self.inside.names })
    c.self.invariant c.args.writer c.args.key c.loop-u.u c.index-rule.result.now (omega arith) c.index-rule.ensures (sym c.serves.ensures ∙ c.if-serves.true)))

pub returns-clause-first : goal.returns-clause-first
returns-clause-first c = none_at_end (serves c.self.inside.account.ledger c.args.writer c.args.key) c.self.inside.rules.items c.loop-u.u (omega arith) c.loop-u.invariant
    ∙ ap (λ (g : GuardState). serving g c.args.writer c.args.key) c.self.view_is
