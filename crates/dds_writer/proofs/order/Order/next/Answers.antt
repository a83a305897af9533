use Rattle.std.proofs.Common.{◌≡◌, ℕ, suc, ◌≤◌, false, Less, arith, subst, rules}
use Rattle.std.specs.Prelude.{⊤}
use Rattle.dds_writer.specs.Order.{pair_cmp, lists, IsNext}
use Rattle.dds_writer.proofs.PairLaws.{lt_pair, pair_lt, next_found, next_other}
use Rattle.dds_writer.proofs.order.Order.next.Goals as goal

pub returns-in_err-pair : goal.returns-in_err-pair
returns-in_err-pair c =
    let none = (c.range.ensures.in_range (search rules)).5 c.in_err-pair.ensures.steps.0 in
    rw c.from_residual.ensures (subst (λ (k : ℕ). (m : ℕ) → suc c.args.start ≤ m → lists c.args.self.now.pairs k m ≡ false) c.number-key.ensures (λ m low. none (c.number-key.result, m) (pair_lt c.number-key.result c.args.start m (omega arith), tt)))

pub returns-then-pair-key : goal.returns-then-pair-key
returns-then-pair-key c =
    let k = c.number-key.result in
    let part = c.range.ensures.in_range (search rules) in
    subst (λ (k : ℕ). (m : ℕ) → suc c.args.start ≤ m → lists c.args.self.now.pairs k m ≡ false) c.number-key.ensures (
    next_other c.args.self.now.pairs k (suc c.args.start) (λ p. (pair_cmp (k, c.args.start) p ≡ Less) × ⊤) (λ n low. (pair_lt k c.args.start n (omega arith), tt)) (λ p inside. lt_pair k c.args.start p.0 p.1 inside.0)
    c.range.result c.next.new.self c.in_ok-pair.pair.now c.in_ok-pair.ensures.steps part.1 part.2 c.if-pair-key.true)

pub returns : goal.returns
returns c =
    let k = c.number-key.result in
    let part = c.range.ensures.in_range (search rules) in
    subst (λ (k : ℕ). IsNext (lists c.args.self.now.pairs k) (suc c.args.start) c.in_ok-pair.pair.now.1) c.number-key.ensures (
    next_found c.args.self.now.pairs k (suc c.args.start) (λ p. (pair_cmp (k, c.args.start) p ≡ Less) × ⊤) (λ n low. (pair_lt k c.args.start n (omega arith), tt)) (λ p inside. lt_pair k c.args.start p.0 p.1 inside.0)
    c.range.result c.next.new.self c.in_ok-pair.pair.now c.in_ok-pair.ensures.steps part.1 part.2 c.if-pair-key.false)
