use Rattle.std.proofs.Common.{◌≡◌, map, take}
use Rattle.dds_rules.specs.Exchange.{exchange_of}
use Rattle.dds_rules.proofs.ledger.exchanges_of.Given as goal

abbrev pub invariant-loop-u : goal.invariant-loop-u
invariant-loop-u l = l.exchanges.items ≡ map exchange_of (take l.u l.lists.rules.entries)
