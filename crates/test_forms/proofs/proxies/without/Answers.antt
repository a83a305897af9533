use Rattle.std.proofs.Common.{◌≡◌, ℕ, ◌+◌, ◌&&◌, ◌==◌, ◌||◌, leb, ltb, not, Bool, ap, sym, ◌∙◌, arith}
use Rattle.dds_base.specs.Sets.{NumberSet, has, set_of}
use Rattle.dds_base.proofs.SetLaws.{set_starts, set_grows, set_stays, set_ends}
use Rattle.test_forms.proofs.proxies.without.Goals as goal
use Rattle.test_forms.proofs.proxies.without.Goals.{then-has_outside, else-has_outside}

pub loop-k-init : goal.loop-k-init
loop-k-init c =
    let outside : ℕ → Bool = λ n. has c.args.set.now n && not (leb c.args.from n && leb n c.args.to) in
    let at : c.base-base.result + 0 ≡ c.base-base.result = omega arith in
    c.empty-rest.ensures ∙ set_starts c.base-base.result outside ∙ ap (λ x. set_of c.base-base.result (λ n. ltb n x && outside n)) (sym at)

pub insert-requires : goal.insert-requires
insert-requires c =
    let base : c.loop-k.rest.base ≡ c.base-base.result = ap (λ (s : NumberSet). s.base) c.loop-k.invariant in
    (omega (arith, base), omega (arith, base, c.loop-k-test.true), c.has_outside.ensures.in_range c.if-has_outside.true)

pub loop-k-preserved : goal.loop-k-preserved
loop-k-preserved c =
    let outside : ℕ → Bool = λ n. has c.args.set.now n && not (leb c.args.from n && leb n c.args.to) in
    let n : ℕ = c.base-base.result + c.loop-k.k in
    let next : c.base-base.result + c.loop-k.k + 1 ≡ c.base-base.result + (c.loop-k.k + 1) = omega arith in
    elim c.if-has_outside.branch [
      | then-has_outside w ↦ w.rest-is ∙ w.insert.ensures
          ∙ ap (λ (s : NumberSet). set_of s.base (λ m. has s m || (n == m))) c.loop-k.invariant
          ∙ set_grows c.base-base.result n outside (sym c.has_outside.ensures.answer ∙ w.if-has_outside.true)
          ∙ ap (λ x. set_of c.base-base.result (λ m. ltb m x && outside m)) next
      | else-has_outside w ↦ w.rest-is ∙ c.loop-k.invariant
          ∙ set_stays c.base-base.result n outside (sym c.has_outside.ensures.answer ∙ w.if-has_outside.false)
          ∙ ap (λ x. set_of c.base-base.result (λ m. ltb m x && outside m)) next
    ]

pub returns : goal.returns
returns c =
    let outside : ℕ → Bool = λ n. has c.args.set.now n && not (leb c.args.from n && leb n c.args.to) in
    c.loop-k.invariant
    ∙ set_ends c.base-base.result (c.base-base.result + c.loop-k.k) outside (λ n above within. absurd (omega (arith, above, within, c.loop-k-test.false)))
    ∙ ap (λ b. set_of b outside) c.base-base.ensures.base
