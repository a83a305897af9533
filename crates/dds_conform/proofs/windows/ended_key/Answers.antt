use Rattle.std.proofs.Common.{◌∙◌, sym}
use Rattle.dds_conform.proofs.Passing.{key_ended, key_unended, wrote_unended}
use Rattle.dds_conform.proofs.windows.ended_key.Goals as goal

pub returns-then-is_end : goal.returns-then-is_end
returns-then-is_end c = key_ended c.args.plan.now c.assert_well_formed.ensures.network c.args.entry.now c.requires c.args.within c.args.reader _ _ c.in-Took.at c.in-Took.key c.in-Took.is (sym c.is_end.ensures ∙ c.if-is_end.true)

pub returns-else-is_end : goal.returns-else-is_end
returns-else-is_end c = key_unended c.args.plan.now c.assert_well_formed.ensures.network c.args.entry.now c.requires c.args.within c.args.reader _ _ c.in-Took.at c.in-Took.key c.in-Took.is (sym c.is_end.ensures ∙ c.if-is_end.false)

pub returns-in-Wrote : goal.returns-in-Wrote
returns-in-Wrote c = wrote_unended c.args.within c.args.reader c.args.entry.now _ _ _ _ c.in-Wrote.is
