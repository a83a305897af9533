use Rattle.std.proofs.Common.{sym, subst}
use Rattle.dds_rules.specs.Counts.{CountTable}
use Rattle.dds_guard.specs.Account.{IsBacked}
use Rattle.dds_guard.proofs.account.Account.note_take.Goals as goal

pub invariant_of-self : goal.invariant_of-self
invariant_of-self c = subst (λ (t : CountTable). IsBacked t c.self.inside.held) (sym c.note_take.ensures.permits) c.self.invariant
