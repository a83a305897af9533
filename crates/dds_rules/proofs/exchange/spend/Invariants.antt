use Rattle.std.proofs.Common.{take}
use Rattle.dds_match.specs.Network.{named}
use Rattle.dds_rules.specs.Counts.{IsMoreBy}
use Rattle.dds_rules.proofs.exchange.spend.Given as goal

abbrev pub invariant-loop-needed : goal.invariant-loop-needed
invariant-loop-needed l = IsMoreBy (named (take l.needed-index l.takes)) l.spare l.initial.spare
