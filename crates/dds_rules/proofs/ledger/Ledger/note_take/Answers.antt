use Rattle.std.proofs.Common.{All, sym, subst}
use Rattle.dds_rules.specs.Exchange.{IsExchange}
use Rattle.dds_rules.proofs.ledger.Ledger.note_take.Goals as goal

pub invariant_of-self : goal.invariant_of-self
invariant_of-self c = subst (λ n. All (IsExchange c.self.inside.permits.endpoints n) c.self.inside.rules.items) (sym c.add.ensures.endpoints) c.self.invariant
