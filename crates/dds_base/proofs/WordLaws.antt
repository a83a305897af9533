-- Laws of flags in words: what a word with one bit changed holds.
use Rattle.std.proofs.Common.{◌≡◌, ◌≢◌, ℕ, ◌+◌, ◌%◌, ◌/◌, ◌<◌, ◌^◌, ◌==◌, Bool, false, List, length, get_or, set, sym, ap, ◌∙◌, arith, inl, inr, get_or-set_same, get_or-set_other, length-set}
use Rattle.std.specs.Int.{bit_at}
use Rattle.std.proofs.lemmas.Bool.{cases_eq, cases_lt}
use Rattle.std.proofs.lemmas.List.{ext_get_or, get_or_past}
use Rattle.std.proofs.lemmas.Nat.{shr-shr}
use Rattle.dds_base.specs.Words.{flags_in, AreWords}
use Rattle.dds_base.specs.WordLaws.{get-flags_in, length-flags_in}

-- a bit of a number that is shifted down is one further up
pub bit_at_shifted : (n s i : ℕ) → bit_at (n / 2 ^ s) i ≡ bit_at n (s + i)
bit_at_shifted n s i = ap (λ x. x % 2) (shr-shr n s i)

-- a word with one bit changed, in its place
pub flags_with : (words : List ℕ) (k word : ℕ) (b : Bool) → length words ≡ 4 → k < 256
    → (bit_at word (k % 64) == 1) ≡ b
    → ((i : ℕ) → i < 64 → i ≢ k % 64 → bit_at word i ≡ bit_at (get_or words (k / 64) 0) i)
    → flags_in (set words (k / 64) word) ≡ set (flags_in words) k b
flags_with words k word b four within itself others = ext_get_or false (flags_in (set words (k / 64) word)) (set (flags_in words) k b) (length-flags_in _ ∙ sym (length-set (flags_in words) k b ∙ length-flags_in words)) at
  where
    at : (j : ℕ) → j < length (flags_in (set words (k / 64) word)) → get_or (flags_in (set words (k / 64) word)) j false ≡ get_or (set (flags_in words) k b) j false
    at j low =
        let short : j < 256 = omega (arith, low, length-flags_in (set words (k / 64) word)) in
        get-flags_in (set words (k / 64) word) j short ∙ elim (cases_eq (j / 64) (k / 64)) [
          | inr apart ↦
              let ne : j ≢ k = λ e. apart (ap (λ n. n / 64) e) in
              ap (λ n. bit_at n (j % 64) == 1) (get_or-set_other words (k / 64) (j / 64) word 0 apart)
              ∙ sym (get-flags_in words j short) ∙ sym (get_or-set_other (flags_in words) k j b false ne)
          | inl here ↦
              ap (λ n. bit_at n (j % 64) == 1) (ap (λ q. get_or (set words (k / 64) word) q 0) here ∙ get_or-set_same words (k / 64) word 0 (omega (arith, four)))
              ∙ elim (cases_eq (j % 64) (k % 64)) [
                | inl same ↦
                    let e : j ≡ k = omega (arith, here, same) in
                    ap (λ i. bit_at word i == 1) same ∙ itself ∙ sym (ap (λ i. get_or (set (flags_in words) k b) i false) e ∙ get_or-set_same (flags_in words) k b false (omega (arith, length-flags_in words)))
                | inr other ↦
                    let ne : j ≢ k = λ e. other (ap (λ n. n % 64) e) in
                    ap (λ x. x == 1) (others (j % 64) (omega arith) other ∙ ap (λ q. bit_at (get_or words q 0) (j % 64)) (sym here))
                    ∙ sym (get-flags_in words j short) ∙ sym (get_or-set_other (flags_in words) k j b false ne)
              ]
        ]

-- a word with one bit changed is a word
pub words_with : (words : List ℕ) (place word : ℕ) → word < 2 ^ 64 → AreWords words → AreWords (set words place word)
words_with words place word fits are = (
  length-set words place word ∙ are.0,
  λ j. elim (cases_eq j place) [
    | inl e ↦ elim (cases_lt place (length words)) [
      | inl within ↦ rw (e, get_or-set_same words place word 0 within) fits
      | inr past ↦ rw (e, get_or_past (set words place word) place 0 (omega (arith, length-set words place word, past))) (omega arith)
    ]
    | inr ne ↦ rw (get_or-set_other words place j word 0 ne) (are.1 j)
  ],
)
