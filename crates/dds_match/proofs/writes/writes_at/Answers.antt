use Rattle.std.proofs.Common.{◌∙◌, sym, ap}
use Rattle.std.specs.Prelude.{slice_get}
use Rattle.dds_match.proofs.Brought.{rule_more}
use Rattle.dds_match.proofs.writes.writes_at.Goals as goal

pub loop-u-preserved : goal.loop-u-preserved
loop-u-preserved c = rule_more c.args.lists.now c.args.w _ _ _ _ (sym (ap (slice_get c.args.lists.now.rules.entries) c.new.ensures) ∙ c.rule.ensures) c.loop-u.invariant c.in_ok-add_writes.ensures
