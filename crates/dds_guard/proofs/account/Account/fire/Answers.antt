use Rattle.std.proofs.Common.{◌≡◌, ℕ, ◌+◌, OnOk, subst}
use Rattle.dds_match.specs.Network.{named}
use Rattle.dds_rules.specs.Ledger.{exchange_at}
use Rattle.dds_guard.specs.Account.{AccountState, left}
use Rattle.dds_guard.proofs.Accounts.{fired_backed, fired_left}
use Rattle.dds_guard.proofs.account.Account.fire.Goals as goal

pub invariant_of-self : goal.invariant_of-self
invariant_of-self c = fired_backed (named (exchange_at c.self.inside.ledger c.args.rule).writes) c.self.inside.ledger c.fire.new.self c.self.inside.held c.fire.result c.fire.ensures.permits c.fire.ensures.err c.self.invariant

pub returns-clause-permits : goal.returns-clause-permits
returns-clause-permits c =
    let after : AccountState = record { ledger = c.fire.new.self; held = c.self.inside.held } in
    subst (λ (a : AccountState). OnOk c.fire.result ((w k : ℕ) → left after w k ≡ left a w k + named (exchange_at a.ledger c.args.rule).writes w k)) c.self.view_is
    (fired_left (named (exchange_at c.self.inside.ledger c.args.rule).writes) c.self.inside.ledger c.fire.new.self c.self.inside.held c.fire.result c.fire.ensures.permits c.self.invariant)
