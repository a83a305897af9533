use Rattle.std.proofs.Common.{subst, ℕ}
use Rattle.dds_cache.specs.Order.{IsFirstIn}
use Rattle.dds_cache.proofs.PairLaws.{first_of_tickets}
use Rattle.dds_cache.proofs.order.Order.first_of.Goals as goal

pub returns : goal.returns
returns c =
    let s = c.args.self.now in
    first_of_tickets s.places s.tickets c.args.key c.first_in.result s.ordered (s.indexed c.requires)
    (subst (λ (k : ℕ). IsFirstIn s.tickets k c.first_in.result) c.number.ensures c.first_in.ensures)
