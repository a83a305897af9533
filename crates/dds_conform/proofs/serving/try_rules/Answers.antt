use Rattle.std.proofs.Common.{◌≡◌, Some, length, sym, ap, ◌∙◌, subst, arith}
use Rattle.dds_lists.specs.Lists.{Lists}
use Rattle.dds_match.specs.Plan.{network_of}
use Rattle.dds_rules.specs.Ledger.{IsLedgerOf, LedgerState, fire_refusal}
use Rattle.dds_rules.specs.declared.refused.FireRefused.TheVariants.{CountLimit}
use Rattle.dds_conform.specs.Judging.{IsFiredFor, Lacks}
use Rattle.dds_conform.proofs.WordLaws.{one_more}
use Rattle.dds_conform.proofs.serving.try_rules.Goals as goal

pub try_rule-requires-clause-ledger : goal.try_rule-requires-clause-ledger
try_rule-requires-clause-ledger c = subst (IsLedgerOf (network_of c.args.plan.now)) (sym c.loop-u.invariant.same) c.requires

pub returns-in-Fired : goal.returns-in-Fired
returns-in-Fired c = (c.new.result, subst (λ l. IsFiredFor (network_of c.args.plan.now) c.args.writer c.args.key c.new.result l c.try_rule.new.ledger) c.loop-u.invariant.same c.in-Fired.ensures)

pub returns-in-Full : goal.returns-in-Full
returns-in-Full c = (c.in-Full.ensures.0 ∙ c.loop-u.invariant.same, (c.new.result, subst (λ (l : LedgerState). fire_refusal l c.new.result ≡ Some CountLimit) c.loop-u.invariant.same c.in-Full.ensures.1))

pub loop-u-preserved : goal.loop-u-preserved
loop-u-preserved c = record {
  same = c.in-Lacking.ensures.0 ∙ c.loop-u.invariant.same;
  lack = one_more (Lacks (network_of c.args.plan.now) c.args.writer c.args.key c.args.ledger.now) c.loop-u.u c.loop-u.invariant.lack
      (subst (λ u. Lacks (network_of c.args.plan.now) c.args.writer c.args.key c.args.ledger.now u) c.new.ensures
      (subst (λ l. Lacks (network_of c.args.plan.now) c.args.writer c.args.key l c.new.result) c.loop-u.invariant.same c.in-Lacking.ensures.1));
}

pub returns : goal.returns
returns c = (c.loop-u.invariant.same, λ u g. c.loop-u.invariant.lack u (let there = g.there in let same = ap (λ (d : Lists). length d.rules.entries) c.lists.ensures.value in omega arith) g)
