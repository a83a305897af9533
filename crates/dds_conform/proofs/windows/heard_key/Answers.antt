use Rattle.std.proofs.Common.{◌∙◌, sym}
use Rattle.dds_conform.proofs.Passing.{key_awaited, key_unheard, took_unheard}
use Rattle.dds_conform.proofs.windows.heard_key.Goals as goal

pub returns-then-is_awaited : goal.returns-then-is_awaited
returns-then-is_awaited c = key_awaited c.args.plan.now c.assert_well_formed.ensures.network c.args.entry.now c.requires c.args.reader _ _ c.in-Wrote.writer c.in-Wrote.key c.in-Wrote.is (sym c.is_awaited.ensures ∙ c.if-is_awaited.true)

pub returns-else-is_awaited : goal.returns-else-is_awaited
returns-else-is_awaited c = key_unheard c.args.plan.now c.assert_well_formed.ensures.network c.args.entry.now c.requires c.args.reader _ _ c.in-Wrote.writer c.in-Wrote.key c.in-Wrote.is (sym c.is_awaited.ensures ∙ c.if-is_awaited.false)

pub returns-in-Took : goal.returns-in-Took
returns-in-Took c = took_unheard c.args.plan.now c.args.reader c.args.entry.now _ _ _ _ c.in-Took.is
