use Rattle.std.proofs.Common.{◌≡◌, ℕ, ◌≤◌, false, subst}
use Rattle.dds_writer.specs.Order.{lists, IsLast}
use Rattle.dds_writer.proofs.PairLaws.{pair_le, last_found, last_other}
use Rattle.dds_writer.proofs.order.Order.last.Goals as goal

pub returns-in_err-pair : goal.returns-in_err-pair
returns-in_err-pair c =
    let none = (c.range.ensures.in_range tt).5 c.in_err-pair.ensures.steps.0 in
    rw c.from_residual.ensures (subst (λ (k : ℕ). (m : ℕ) → m ≤ c.args.end → lists c.args.self.now.pairs k m ≡ false) c.number-key.ensures (λ m high. none (c.number-key.result, m) (tt, pair_le c.number-key.result m c.args.end high)))

pub returns-then-pair-key : goal.returns-then-pair-key
returns-then-pair-key c =
    let k = c.number-key.result in
    let part = c.range.ensures.in_range tt in
    let here = part.3 _ _ c.in_ok-pair.ensures.steps in
    subst (λ (k : ℕ). (m : ℕ) → m ≤ c.args.end → lists c.args.self.now.pairs k m ≡ false) c.number-key.ensures (
    last_other c.args.self.now.pairs k c.args.end c.range.result c.next_back.new.self c.in_ok-pair.pair.now c.in_ok-pair.ensures.steps here.0.1 here.1
    (λ q high there. part.4 _ _ c.in_ok-pair.ensures.steps q (tt, high) there) c.if-pair-key.true)

pub returns : goal.returns
returns c =
    let k = c.number-key.result in
    let part = c.range.ensures.in_range tt in
    let here = part.3 _ _ c.in_ok-pair.ensures.steps in
    subst (λ (k : ℕ). IsLast (lists c.args.self.now.pairs k) c.args.end c.in_ok-pair.pair.now.1) c.number-key.ensures (
    last_found c.args.self.now.pairs k c.args.end c.range.result c.next_back.new.self c.in_ok-pair.pair.now c.in_ok-pair.ensures.steps here.0.1 here.1
    (λ q high there. part.4 _ _ c.in_ok-pair.ensures.steps q (tt, high) there) c.if-pair-key.false)
