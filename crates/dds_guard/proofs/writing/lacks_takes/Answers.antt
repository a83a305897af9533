use Rattle.std.proofs.Common.{sym, ◌∙◌}
use Rattle.dds_rules.specs.Counts.{count_at}
use Rattle.dds_rules.proofs.PortionLaws.{short_alone}
use Rattle.dds_guard.proofs.writing.lacks_takes.Goals as goal

pub returns-else-is_empty : goal.returns-else-is_empty
returns-else-is_empty c = c.is_some_short.ensures ∙ short_alone (count_at c.args.ledger.now.spare) c.args.takes.now c.requires (sym c.is_empty.ensures ∙ c.if-is_empty.false)
