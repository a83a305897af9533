use Rattle.std.proofs.Common.{All, subst}
use Rattle.dds_rules.specs.Exchange.{IsExchange}
use Rattle.dds_rules.proofs.ledger.Ledger.use_permit.Goals as goal

pub invariant_of-self : goal.invariant_of-self
invariant_of-self c = subst (λ n. All (IsExchange n c.self.inside.spare.endpoints) c.self.inside.rules.items) c.subtract.ensures.endpoints c.self.invariant
