use Rattle.std.proofs.Common.{sym, ◌∙◌, ap}
use Rattle.std.specs.Prelude.{slice_get}
use Rattle.dds_match.proofs.Marking.{comes_none, comes_more, writes_have_keys}
use Rattle.dds_match.proofs.tables.mark_reached.Goals as goal

pub loop-u-init : goal.loop-u-init
loop-u-init c = comes_none c.args.lists.now _

pub mark_coming-requires-clause-keys : goal.mark_coming-requires-clause-keys
mark_coming-requires-clause-keys c = writes_have_keys c.args.lists.now c.requires.well_formed c.new.result _ _ c.rule.ensures c.deref.ensures.value

pub loop-u-preserved : goal.loop-u-preserved
loop-u-preserved c = comes_more c.args.lists.now _ _ _ _ _ _ (sym (ap (slice_get c.args.lists.now.rules.entries) c.new.ensures) ∙ c.rule.ensures) c.deref.ensures.value c.loop-u.invariant c.mark_coming.ensures
