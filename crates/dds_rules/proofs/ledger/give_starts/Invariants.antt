use Rattle.dds_rules.specs.Counts.{IsMoreBy}
use Rattle.dds_rules.proofs.Opening.{starts_below}
use Rattle.dds_rules.proofs.ledger.give_starts.Given as goal

abbrev pub invariant-loop-u : goal.invariant-loop-u
invariant-loop-u l = IsMoreBy (starts_below l.lists l.u) l.initial.permits l.permits
