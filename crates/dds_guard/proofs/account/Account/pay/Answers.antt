use Rattle.std.proofs.Common.{ap, arith}
use Rattle.dds_guard.specs.Account.{AccountState, left}
use Rattle.dds_guard.proofs.Accounts.{charged_by}
use Rattle.dds_guard.proofs.account.Account.pay.Goals as goal

pub invariant_of-self : goal.invariant_of-self
invariant_of-self c =
    let now = c.settle.ensures.permits c.args.writer c.args.key in
    let was = ap (λ (a : AccountState). left a c.args.writer c.args.key) c.self.view_is in
    let some = c.requires in
    omega arith

pub returns : goal.returns
returns c = charged_by c.args.self.now (record { ledger = c.self.inside.ledger; held = c.self.inside.held }) c.settle.new.ledger c.args.writer c.args.key c.self.view_is c.requires c.settle.ensures.permits c.settle.ensures.spare c.settle.ensures.plan
