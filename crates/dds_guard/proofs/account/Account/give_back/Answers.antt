use Rattle.std.proofs.Common.{None, refl, ap, ◌∙◌, subst}
use Rattle.dds_guard.specs.Account.{AccountState, IsCharged, is_held}
use Rattle.dds_guard.proofs.Accounts.{given_back}
use Rattle.dds_guard.proofs.account.Account.give_back.Goals as goal

pub returns-clause-charged : goal.returns-clause-charged
returns-clause-charged c =
    let inside : AccountState = record { ledger = c.self.inside.ledger; held = c.self.inside.held } in
    let after : AccountState = record { ledger = c.self.inside.ledger; held = None } in
    let is = ap (λ (a : AccountState). is_held a.held c.args.writer c.args.key) c.self.view_is ∙ c.requires in
    subst (λ (a : AccountState). IsCharged c.args.writer c.args.key after a) c.self.view_is (given_back inside after c.args.writer c.args.key c.self.invariant is refl refl)
