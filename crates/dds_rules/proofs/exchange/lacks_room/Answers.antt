use Rattle.std.proofs.Common.{◌∙◌}
use Rattle.dds_rules.specs.Counts.{count_at}
use Rattle.dds_rules.proofs.PortionLaws.{full_alone}
use Rattle.dds_rules.proofs.exchange.lacks_room.Goals as goal

pub returns : goal.returns
returns c = c.is_some_full.ensures ∙ full_alone (count_at c.args.permits.now) c.args.writes.now c.requires
