use Rattle.std.proofs.Common.{ap, ◌∙◌}
use Rattle.dds_rules.specs.Counts.{CountTable}
use Rattle.dds_rules.proofs.Opening.{ledger_of, sound_rules}
use Rattle.dds_rules.proofs.ledger.open_ledger.Goals as goal

pub invariant_of-result : goal.invariant_of-result
invariant_of-result c = sound_rules c.args.lists.now c.requires c.assert_well_formed.ensures.names_once _ _ _ c.in_ok-rules.ensures
    (c.give_starts.ensures.endpoints ∙ ap (λ (t : CountTable). t.endpoints) c.in_ok-permits.ensures ∙ c.writers.ensures.count)
    (ap (λ (t : CountTable). t.endpoints) c.in_ok-spare.ensures ∙ c.readers.ensures.count)

pub returns-clause-rules : goal.returns-clause-rules
returns-clause-rules c = ledger_of c.args.lists.now _ c.in_ok-rules.ensures
    (c.give_starts.ensures.endpoints ∙ ap (λ (t : CountTable). t.endpoints) c.in_ok-permits.ensures ∙ c.writers.ensures.count)
    (ap (λ (t : CountTable). t.endpoints) c.in_ok-spare.ensures ∙ c.readers.ensures.count)
