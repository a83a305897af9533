use Rattle.std.proofs.Common.{◌∙◌}
use Rattle.dds_rules.specs.Counts.{count_at}
use Rattle.dds_rules.proofs.PortionLaws.{full_alone}
use Rattle.dds_guard.proofs.writing.lacks_room.Goals as goal

pub returns : goal.returns
returns c = c.is_some_full.ensures ∙ full_alone (count_at c.args.ledger.now.permits) c.args.writes.now c.requires
