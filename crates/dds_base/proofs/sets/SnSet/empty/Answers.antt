use Rattle.std.proofs.Common.{◌≡◌, ℕ, ◌/◌, ◌%◌, ◌<◌, ◌^◌, ◌-◌, ◌&&◌, ◌==◌, leb, zero, suc, [], ◌∷◌, List, false, get_or, ap, sym, refl, ◌∙◌, arith, inl, inr}
use Rattle.std.specs.Int.{bit_at}
use Rattle.std.proofs.lemmas.Bool.{cases_lt, false≢true}
use Rattle.std.proofs.lemmas.List.{get_or_past}
use Rattle.std.proofs.lemmas.Nat.Bits.{bit_at-zero}
use Rattle.dds_base.specs.Words.{flags_in}
use Rattle.dds_base.specs.WordLaws.{get-flags_in, length-flags_in}
use Rattle.dds_base.proofs.SetLaws.{flags_are}
use Rattle.dds_base.proofs.Bools.{and_false}
use Rattle.dds_base.proofs.sets.SnSet.empty.Goals as goal

abbrev empty : List ℕ
empty = 0 ∷ 0 ∷ 0 ∷ 0 ∷ []

word : (j : ℕ) → get_or empty j 0 ≡ 0
word zero = refl
word (suc zero) = refl
word (suc (suc zero)) = refl
word (suc (suc (suc zero))) = refl
word (suc (suc (suc (suc j)))) = refl

no_flag : (k : ℕ) → get_or (flags_in empty) k false ≡ false
no_flag k = elim (cases_lt k 256) [
  | inl within ↦ get-flags_in empty k within ∙ ap (λ n. bit_at n (k % 64) == 1) (word (k / 64)) ∙ ap (λ x. x == 1) (bit_at-zero (k % 64))
  | inr past ↦ get_or_past (flags_in empty) k false (omega (arith, length-flags_in empty, past))
]

small : (j : ℕ) → get_or empty j 0 < 2 ^ 64
small j = omega (arith, word j)

pub invariant_of-result : goal.invariant_of-result
invariant_of-result c = ((refl, λ j. small j), c.requires.low, c.requires.high, λ k set. absurd (false≢true (sym (no_flag k) ∙ set)))

pub returns : goal.returns
returns c = ap (λ fs. record { base = c.args.base; flags = fs }) (flags_are c.args.base (λ n. false) (flags_in empty) (length-flags_in empty) (λ n low high. ap (λ b. leb c.args.base n && b) (no_flag (n - c.args.base)) ∙ and_false (leb c.args.base n)))
