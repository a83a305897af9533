use Rattle.std.proofs.Common.{◌≡◌, ℕ, ◌≤◌, false, subst}
use Rattle.std.specs.Prelude.{⊤}
use Rattle.std.specs.Ordering.{is_gt}
use Rattle.dds_writer.specs.Order.{pair_cmp, lists, IsNext}
use Rattle.dds_writer.proofs.PairLaws.{le_pair, pair_le, next_found, next_other}
use Rattle.dds_writer.proofs.order.Order.first.Goals as goal

pub returns-in_err-pair : goal.returns-in_err-pair
returns-in_err-pair c =
    let none = (c.range.ensures.in_range tt).5 c.in_err-pair.ensures.steps.0 in
    rw c.from_residual.ensures (subst (λ (k : ℕ). (m : ℕ) → 0 ≤ m → lists c.args.self.now.pairs k m ≡ false) c.number-key.ensures (λ m low. none (c.number-key.result, m) (pair_le c.number-key.result 0 m low, tt)))

pub returns-then-pair-key : goal.returns-then-pair-key
returns-then-pair-key c =
    let k = c.number-key.result in
    let part = c.range.ensures.in_range tt in
    subst (λ (k : ℕ). (m : ℕ) → 0 ≤ m → lists c.args.self.now.pairs k m ≡ false) c.number-key.ensures (
    next_other c.args.self.now.pairs k 0 (λ p. (is_gt (pair_cmp (k, 0) p) ≡ false) × ⊤) (λ n low. (pair_le k 0 n low, tt)) (λ p inside. le_pair k 0 p.0 p.1 inside.0)
    c.range.result c.next.new.self c.in_ok-pair.pair.now c.in_ok-pair.ensures.steps part.1 part.2 c.if-pair-key.true)

pub returns : goal.returns
returns c =
    let k = c.number-key.result in
    let part = c.range.ensures.in_range tt in
    subst (λ (k : ℕ). IsNext (lists c.args.self.now.pairs k) 0 c.in_ok-pair.pair.now.1) c.number-key.ensures (
    next_found c.args.self.now.pairs k 0 (λ p. (is_gt (pair_cmp (k, 0) p) ≡ false) × ⊤) (λ n low. (pair_le k 0 n low, tt)) (λ p inside. le_pair k 0 p.0 p.1 inside.0)
    c.range.result c.next.new.self c.in_ok-pair.pair.now c.in_ok-pair.ensures.steps part.1 part.2 c.if-pair-key.false)
