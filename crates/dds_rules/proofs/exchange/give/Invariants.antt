use Rattle.std.proofs.Common.{take, ◌*◌}
use Rattle.dds_match.specs.Network.{named}
use Rattle.dds_rules.specs.Counts.{IsMoreBy}
use Rattle.dds_rules.proofs.exchange.give.Given as goal

abbrev pub invariant-loop-given : goal.invariant-loop-given
invariant-loop-given l = IsMoreBy (λ w k. named (take l.given-index l.writes) w k * l.times) l.initial.permits l.permits
