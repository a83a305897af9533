-- What the model of a set cites: words are given back by the flags that they hold.
use Rattle.std.proofs.Common.{◌≡◌, ℕ, zero, suc, ◌+◌, ◌*◌, ◌%◌, ◌/◌, ◌<◌, ◌^◌, ◌==◌, Bool, true, false, cond, List, length, get_or, refl, sym, ap, ◌∙◌, arith}
use Rattle.std.specs.Int.{bit_at}
use Rattle.std.proofs.lemmas.List.{ext_get_or}
use Rattle.std.proofs.lemmas.List.FromFn.{get_or-map-range_with_len, length-map-range_with_len}
use Rattle.std.proofs.lemmas.Nat.Bits.{bit_at_lowest, bit_at-suc, bit_at-lt, same_from_bits_below}
use Rattle.std.proofs.Math.Nat.{pow-suc}
use Rattle.dds_base.specs.Words.{has_bit, flags_in, AreWords, number_of, words_of}

pub length-flags_in : (words : List ℕ) → length (flags_in words) ≡ 256
unfolding flags_in
length-flags_in words = length-map-range_with_len (has_bit words) 0 256

pub get-flags_in : (words : List ℕ) (k : ℕ) → k < 256 → get_or (flags_in words) k false ≡ has_bit words k
unfolding flags_in
get-flags_in words k within = get_or-map-range_with_len (has_bit words) 0 256 k k false within (omega arith)

one_or_none : (b : Bool) → cond b 1 0 < 2
one_or_none true = omega arith
one_or_none false = omega arith

bit_of_number : (n : ℕ) (is_set : ℕ → Bool) (i : ℕ) → i < n → bit_at (number_of n is_set) i ≡ cond (is_set i) 1 0
unfolding number_of
bit_of_number zero is_set i low = absurd (omega arith)
bit_of_number (suc n) is_set zero low = bit_at_lowest (number_of (suc n) is_set) ∙ omega (arith, one_or_none (is_set 0))
bit_of_number (suc n) is_set (suc i) low =
    let half : number_of (suc n) is_set / 2 ≡ number_of n (λ j. is_set (suc j)) = omega (arith, one_or_none (is_set 0)) in
    bit_at-suc (number_of (suc n) is_set) i ∙ ap (λ x. bit_at x i) half ∙ bit_of_number n (λ j. is_set (suc j)) i (omega arith)

number_lt : (n : ℕ) (is_set : ℕ → Bool) → number_of n is_set < 2 ^ n
unfolding number_of
number_lt zero is_set = omega arith
number_lt (suc n) is_set = omega (arith, one_or_none (is_set 0), number_lt n (λ i. is_set (suc i)), pow-suc 2 n)

bit_again : (x : ℕ) → x < 2 → cond (x == 1) 1 0 ≡ x
bit_again zero low = refl
bit_again (suc zero) low = refl
bit_again (suc (suc x)) low = absurd (omega arith)

-- the words of the flags that words hold are these words
pub words_of_flags : (words : List ℕ) → AreWords words → words_of (flags_in words) ≡ words
unfolding words_of
words_of_flags words are = ext_get_or 0 (words_of (flags_in words)) words (four ∙ sym are.0) at
  where
    held : ℕ → ℕ → Bool
    held j i = get_or (flags_in words) (64 * j + i) false

    four : length (words_of (flags_in words)) ≡ 4
    four = length-map-range_with_len (λ j. number_of 64 (held j)) 0 4

    bit : (j i : ℕ) → j < 4 → i < 64 → cond (held j i) 1 0 ≡ bit_at (get_or words j 0) i
    bit j i low under =
        let q : (64 * j + i) / 64 ≡ j = omega arith in
        let r : (64 * j + i) % 64 ≡ i = omega arith in
        ap (λ b. cond b 1 0) (get-flags_in words (64 * j + i) (omega arith) ∙ rw (q, r) refl) ∙ bit_again (bit_at (get_or words j 0) i) (bit_at-lt (get_or words j 0) i)

    at : (j : ℕ) → j < length (words_of (flags_in words)) → get_or (words_of (flags_in words)) j 0 ≡ get_or words j 0
    at j low =
        let short : j < 4 = omega (arith, four) in
        get_or-map-range_with_len (λ k. number_of 64 (held k)) 0 4 j j 0 short (omega arith)
        ∙ same_from_bits_below 64 (number_of 64 (held j)) (get_or words j 0) (number_lt 64 (held j)) (are.1 j) (λ i under. bit_of_number 64 (held j) i under ∙ bit j i short under)
