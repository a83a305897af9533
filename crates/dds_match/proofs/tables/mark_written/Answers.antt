use Rattle.std.proofs.Common.{sym, ◌∙◌, ap}
use Rattle.std.specs.Prelude.{slice_get}
use Rattle.dds_match.proofs.Marking.{written_none, written_more, writes_have_places}
use Rattle.dds_match.proofs.tables.mark_written.Goals as goal

pub loop-u-init : goal.loop-u-init
loop-u-init c = written_none c.args.lists.now _

pub mark_writes-requires : goal.mark_writes-requires
mark_writes-requires c = writes_have_places c.args.lists.now c.requires.well_formed c.new.result _ _ _ c.rule.ensures c.deref.ensures.value (c.loop-u.invariant.same_size ∙ c.requires.size)

pub loop-u-preserved : goal.loop-u-preserved
loop-u-preserved c = written_more c.args.lists.now _ _ _ _ _ _ (sym (ap (slice_get c.args.lists.now.rules.entries) c.new.ensures) ∙ c.rule.ensures) c.deref.ensures.value c.loop-u.invariant c.mark_writes.ensures
