use Rattle.std.proofs.Common.{None, sym, subst}
use Rattle.dds_lists.specs.Lists.{Lists}
use Rattle.dds_match.specs.Network.{IsNetwork}
use Rattle.dds_match.specs.Plan.{network_of}
use Rattle.dds_rules.specs.Ledger.{IsLedgerOf}
use Rattle.dds_guard.proofs.Opened.{sound}
use Rattle.dds_guard.proofs.opening.guard_of.Goals as goal

pub invariant_of-result : goal.invariant_of-result
invariant_of-result c = sound c.lists-lists.result.now c.args.app (subst (λ (d : Lists). IsNetwork (network_of d)) (sym c.lists-lists.ensures.value) c.lists-lists.ensures.network)
    c.assert_well_formed.ensures.names_once c.assert_well_formed.ensures.consistent
    (record { ledger = c.in_ok-ledger.ledger; held = None; writers = c.in_ok-writers.writers.items; filters = c.in_ok-filters.filters.items; rules = c.in_ok-rules.rules.items; names = c.in_ok-names.names })
    (subst (λ (d : Lists). IsLedgerOf (network_of d) c.in_ok-ledger.ledger) (sym c.lists-lists.ensures.value) c.in_ok-ledger.ensures.world.of) c.in_ok-filters.ensures c.in_ok-rules.ensures
