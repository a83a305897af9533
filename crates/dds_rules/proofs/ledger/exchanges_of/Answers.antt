use Rattle.std.proofs.Common.{sym, ap, ◌∙◌}
use Rattle.std.specs.Prelude.{slice_get}
use Rattle.dds_rules.proofs.Opening.{one_more_rule}
use Rattle.dds_rules.proofs.ledger.exchanges_of.Goals as goal

pub loop-u-preserved : goal.loop-u-preserved
loop-u-preserved c = one_more_rule c.args.lists.now.rules.entries c.loop-u.exchanges.items _ c.loop-u.u _ c.in_ok-of.field-0
    (sym (ap (slice_get c.args.lists.now.rules.entries) c.new.ensures) ∙ c.rule.ensures) c.loop-u.invariant c.in_ok-of.ensures c.in_ok-push.ensures.items
