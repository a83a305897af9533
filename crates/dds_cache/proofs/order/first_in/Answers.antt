use Rattle.std.proofs.Common.{◌∙◌, ℕ, sym, refl, ap, arith}
use Rattle.std.specs.Ordering.{nat_cmp}
use Rattle.std.specs.BTreeMap as tree
use Rattle.dds_cache.specs.Order.{pair_cmp}
use Rattle.dds_cache.proofs.MapLaws.{first_from, from_zero, none_from, exact_nat}
use Rattle.dds_cache.proofs.order.first_in.Goals as goal

pub returns-in_err-at : goal.returns-in_err-at
returns-in_err-at c =
    let none = (c.range.ensures.in_range tt).5 c.in_err-at.ensures.steps.0 in
    rw c.from_residual.ensures (λ t. none (c.args.key, t) (from_zero nat_cmp exact_nat c.args.key t, tt))

pub returns-then-at-key : goal.returns-then-at-key
returns-then-at-key c =
    let part = c.range.ensures.in_range tt in
    let p : ℕ × ℕ = c.in_ok-at.at.now in
    let first : (ℕ × ℕ) × (ℕ × ℕ) = (p, c.in_ok-at.spot.now) in
    let f = first_from nat_cmp exact_nat c.args.tickets.now c.args.key _ _ first c.in_ok-at.ensures.steps part.1 part.2 in
    (p.1, refl, ap (λ (k : ℕ). tree.get pair_cmp c.args.tickets.now (k, p.1)) (sym c.if-at-key.true) ∙ f.0, λ s there. (f.1 s there).1)

pub returns-else-at-key : goal.returns-else-at-key
returns-else-at-key c =
    let part = c.range.ensures.in_range tt in
    let p : ℕ × ℕ = c.in_ok-at.at.now in
    let first : (ℕ × ℕ) × (ℕ × ℕ) = (p, c.in_ok-at.spot.now) in
    let f = first_from nat_cmp exact_nat c.args.tickets.now c.args.key _ _ first c.in_ok-at.ensures.steps part.1 part.2 in
    λ t. none_from nat_cmp c.args.tickets.now c.args.key t p f.1 (λ same le. c.if-at-key.false same) t (omega arith)
