use Rattle.std.proofs.Common.{◌≡◌, ℕ, ◌/◌, ◌+◌, ◌-◌, ◌≤◌, ◌^◌, ◌<◌, ap, sym, ◌∙◌, arith, w64, inl, inr}
use Rattle.std.specs.Int.{bit_at, trailing_zeros}
use Rattle.std.proofs.lemmas.Bool.{cases_lt}
use Rattle.std.proofs.lemmas.Nat.Bits.{bit_at-zero, bit_at-trailing_zeros, bit_at_above}
use Rattle.std.proofs.Math.Nat.{div-le_self}
use Rattle.dds_base.proofs.WordLaws.{bit_at_shifted}
use Rattle.dds_base.proofs.words.next_bit.Goals as goal

-- a bit from one on, in the word that is shifted down
shifted : (word from i : ℕ) → from ≤ i → bit_at word i ≡ bit_at (word / 2 ^ from) (i - from)
shifted word from i above = let at : from + (i - from) ≡ i = omega arith in sym (bit_at_shifted word from (i - from) ∙ ap (bit_at word) at)

pub returns-then-rest-eq0 : goal.returns-then-rest-eq0
returns-then-rest-eq0 c = λ i above. shifted c.args.word c.args.from i above ∙ ap (λ n. bit_at n (i - c.args.from)) c.if-rest-eq0.true ∙ bit_at-zero (i - c.args.from)

pub returns-else-rest-eq0 : goal.returns-else-rest-eq0
returns-else-rest-eq0 c =
    let rest = c.args.word / 2 ^ c.args.from in
    let small : rest < 2 ^ 64 = omega (arith, div-le_self c.args.word (2 ^ c.args.from), c.ranges.word.fits) in
    let first = bit_at-trailing_zeros w64 rest (omega (arith, c.if-rest-eq0.false)) small in
    let here : bit_at c.args.word (c.args.from + trailing_zeros w64 rest) ≡ 1 = sym (bit_at_shifted c.args.word c.args.from (trailing_zeros w64 rest)) ∙ first.1 in
    let under : c.args.from + trailing_zeros w64 rest < 64 = elim (cases_lt (c.args.from + trailing_zeros w64 rest) 64) [
      | inl low ↦ low
      | inr past ↦ absurd (omega (arith, here, bit_at_above c.args.word 64 (c.args.from + trailing_zeros w64 rest) c.ranges.word.fits past))
    ] in
    (omega arith, under, here, λ j above below. shifted c.args.word c.args.from j above ∙ first.2 (j - c.args.from) (omega (arith, below)))
