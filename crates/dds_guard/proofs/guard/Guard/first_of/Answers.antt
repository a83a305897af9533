use Rattle.std.proofs.Common.{Some, position, sym, ap, ◌∙◌, arith}
use Rattle.std.specs.Prelude.{◌==◌}
use Rattle.dds_guard.specs.Guard.{GuardState, RuleState}
use Rattle.dds_guard.proofs.Serving.{first_at, none_at_end, none_more}
use Rattle.dds_guard.proofs.guard.Guard.first_of.Goals as goal

pub loop-u-preserved : goal.loop-u-preserved
loop-u-preserved c = none_more (λ (x : RuleState). x.entry == c.args.entry) c.self.inside.rules.items c.loop-u.u c.index-rule.result.now (omega arith) c.index-rule.ensures
    c.loop-u.invariant (sym c.has_entry.ensures ∙ c.if-has_entry.false)

pub returns-then-has_entry : goal.returns-then-has_entry
returns-then-has_entry c = ap Some c.new.ensures
    ∙ first_at (λ (x : RuleState). x.entry == c.args.entry) c.self.inside.rules.items c.loop-u.u c.index-rule.result.now (omega arith) c.index-rule.ensures c.loop-u.invariant (sym c.has_entry.ensures ∙ c.if-has_entry.true)
    ∙ ap (λ (g : GuardState). position (λ (x : RuleState). x.entry == c.args.entry) g.rules) c.self.view_is

pub returns : goal.returns
returns c = none_at_end (λ (x : RuleState). x.entry == c.args.entry) c.self.inside.rules.items c.loop-u.u (omega arith) c.loop-u.invariant
    ∙ ap (λ (g : GuardState). position (λ (x : RuleState). x.entry == c.args.entry) g.rules) c.self.view_is
