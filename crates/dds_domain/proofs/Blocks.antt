-- The blocks of the bus: where the count of each block tells whether a place of it passes a test, the first and the last place that pass are found in
-- the first and the last block that its count tells of.
use Rattle.std.proofs.Common.{◌≡◌, inl, inr, ℕ, ◌+◌, ◌*◌, ◌/◌, ◌%◌, ◌≤◌, ◌<◌, Bool, true, false, cond, not, ltb, List, length, Option, Some, None, take, drop, sym, ap, subst, ◌∙◌, arith, length-take, length-drop, get_or-take, get_or-drop}
use Rattle.std.specs.Prelude.{position, slice_index_or}
use Rattle.std.specs.List.{position_or_len}
use Rattle.std.proofs.lemmas.Bool.{cases_lt, cond-true, cond-false, lt-ltb, le-ltb, not-true, not_from_true, not_from_false}
use Rattle.std.proofs.lemmas.List.{get_or_default}
use Rattle.std.proofs.lemmas.List.Quantifiers.{position-Some}
use Rattle.std.proofs.lemmas.List.Sums.{prefix_len_is, prefix_len_passes}
use Rattle.std.proofs.lemmas.Option.{none-some}
use Rattle.dds_base.specs.declared.messages.Packet.{Packet}
use Rattle.dds_runs.specs.Steps.{places}
use Rattle.dds_domain.specs.Bus.{at_place, IsLastPlace}

-- the counts of the blocks tell by q whether some place of a block passes p
pub record Tells (p : Option Packet → Bool) (q : ℕ → Bool) (held : List (Option Packet)) (taken : List ℕ) : Type 0 where
  pub whole : length held ≡ places
  pub blocks : length taken ≡ 64
  pub none : (b j : ℕ) → b < 64 → q (slice_index_or taken b 0) ≡ false → j < 64 → p (at_place held (64 * b + j)) ≡ false
  pub some : (b : ℕ) → b < 64 → q (slice_index_or taken b 0) ≡ true → ((j : ℕ) → j < 64 → p (at_place held (64 * b + j)) ≡ false) → ⊥

-- ── the first element of a list that passes
passes_nowhere : {X : Type 0} (p : X → Bool) (xs : List X) (k : ℕ) (d : X) → position p xs ≡ None → k < length xs → p (slice_index_or xs k d) ≡ false
passes_nowhere p xs k d none b = elim (cases_lt (position_or_len p xs) (length xs)) [
  | inl lt ↦ absurd (none-some (position_or_len p xs) (sym none ∙ cond-true (ltb (position_or_len p xs) (length xs)) (Some (position_or_len p xs)) None (lt-ltb (position_or_len p xs) (length xs) lt)))
  | inr ge ↦ not-true (p (slice_index_or xs k d)) (prefix_len_passes (λ x. not (p x)) xs k d (omega arith))
]

first_place : {X : Type 0} (p : X → Bool) (xs : List X) (i : ℕ) (d : X) → i < length xs → p (slice_index_or xs i d) ≡ true → ((k : ℕ) → k < i → p (slice_index_or xs k d) ≡ false) → position p xs ≡ Some i
first_place p xs i d b here before =
    let at : position_or_len p xs ≡ i = prefix_len_is (λ x. not (p x)) xs i d (omega arith) (λ k l. not_from_false (p (slice_index_or xs k d)) (before k l)) (λ l. not_from_true (p (slice_index_or xs i d)) here) in
    ap (λ n. cond (ltb n (length xs)) (Some n) None) at ∙ cond-true (ltb i (length xs)) (Some i) None (lt-ltb i (length xs) b)

no_place : {X : Type 0} (p : X → Bool) (xs : List X) (d : X) → ((k : ℕ) → k < length xs → p (slice_index_or xs k d) ≡ false) → position p xs ≡ None
no_place p xs d fails =
    let at : position_or_len p xs ≡ length xs = prefix_len_is (λ x. not (p x)) xs (length xs) d (omega arith) (λ k l. not_from_false (p (slice_index_or xs k d)) (fails k l)) (λ l. absurd (omega arith)) in
    ap (λ n. cond (ltb n (length xs)) (Some n) None) at ∙ cond-false (ltb (length xs) (length xs)) (Some (length xs)) None (le-ltb (length xs) (length xs) (omega arith))

-- ── places and blocks
at_block : (held : List (Option Packet)) (b n j : ℕ) → n ≡ 64 → j < 64 → at_place (take n (drop (b * 64) held)) j ≡ at_place held (64 * b + j)
at_block held b n j size l = get_or-take n (drop (b * 64) held) j None (omega arith) ∙ get_or-drop (b * 64) held j None ∙ ap (at_place held) (omega arith)

length_block : (held : List (Option Packet)) (b n : ℕ) → n ≡ 64 → length held ≡ places → b < 64 → length (take n (drop (b * 64) held)) ≡ 64
length_block held b n size whole l = simp (length-take, length-drop) (omega arith)

-- what fails in each block before b, and in b before a place, fails before that place
before_place : (q : ℕ → Bool) (b at : ℕ) → at ≤ 64 → ((k j : ℕ) → k < b → j < 64 → q (64 * k + j) ≡ false) → ((j : ℕ) → j < at → q (64 * b + j) ≡ false) → (i : ℕ) → i < b * 64 + at → q i ≡ false
before_place q b at fits blocks here i l =
    let whole : 64 * (i / 64) + i % 64 ≡ i = omega arith in
    let small : i % 64 < 64 = omega arith in
    subst (λ n. q n ≡ false) whole (elim (cases_lt (i / 64) b) [
      | inl lt ↦ blocks (i / 64) (i % 64) lt small
      | inr ge ↦ let same : b ≡ i / 64 = omega arith in subst (λ k. q (64 * k + i % 64) ≡ false) same (here (i % 64) (omega arith))
    ])

-- what fails in each block after b, and in b after a place, fails after that place
after_place : (q : ℕ → Bool) (b at : ℕ) → ((k j : ℕ) → b < k → k < 64 → j < 64 → q (64 * k + j) ≡ false) → ((j : ℕ) → at < j → j < 64 → q (64 * b + j) ≡ false) → (i : ℕ) → b * 64 + at < i → i < places → q i ≡ false
after_place q b at blocks here i l m =
    let whole : 64 * (i / 64) + i % 64 ≡ i = omega arith in
    let small : i % 64 < 64 = omega arith in
    subst (λ n. q n ≡ false) whole (elim (cases_lt b (i / 64)) [
      | inl lt ↦ blocks (i / 64) (i % 64) lt (omega arith) small
      | inr ge ↦ let same : b ≡ i / 64 = omega arith in subst (λ k. q (64 * k + i % 64) ≡ false) same (here (i % 64) (omega arith) small)
    ])

module _ (p : Option Packet → Bool) (q : ℕ → Bool) (held : List (Option Packet)) (taken : List ℕ) (h : Tells p q held taken) where
  -- no block is told of
  nowhere : ((b : ℕ) → b < 64 → q (slice_index_or taken b 0) ≡ false) → (i : ℕ) → i < places → p (at_place held i) ≡ false
  nowhere none i l = before_place (λ j. p (at_place held j)) 64 0 (omega arith) (λ k j b m. h.none k j b (none k b) m) (λ j m. absurd (omega arith)) i (omega arith)

  -- ── the first place
  pub first_in_blocks : (b at n : ℕ) → n ≡ 64 → position q taken ≡ Some b → position p (take n (drop (b * 64) held)) ≡ Some at → position p held ≡ Some (b * 64 + at)
  first_in_blocks b at n size block place =
      let in_taken = position-Some q taken b 0 block in
      let within : b < 64 = omega (arith, in_taken.0, h.blocks) in
      let in_block = position-Some p (take n (drop (b * 64) held)) at None place in
      let small : at < 64 = omega (arith, in_block.0, length_block held b n size h.whole within) in
      let same : at_place held (64 * b + at) ≡ at_place held (b * 64 + at) = ap (at_place held) (omega arith) in
      first_place p held (b * 64 + at) None (omega (arith, h.whole))
      (ap p (sym (at_block held b n at size small ∙ same)) ∙ in_block.1)
      (before_place (λ i. p (at_place held i)) b at (omega arith)
      (λ k j l m. h.none k j (omega arith) (in_taken.2 k l) m)
      (λ j l. ap p (sym (at_block held b n j size (omega arith))) ∙ in_block.2 j l))

  pub nowhere_in_blocks : position q taken ≡ None → position p held ≡ None
  nowhere_in_blocks none = no_place p held None (λ i l. nowhere (λ b m. passes_nowhere q taken b 0 none (omega (arith, h.blocks))) i (omega (arith, h.whole)))

  -- a block that is told of has a place
  pub some_in_block : (b n : ℕ) → n ≡ 64 → position q taken ≡ Some b → position p (take n (drop (b * 64) held)) ≡ None → ⊥
  some_in_block b n size block none =
      let in_taken = position-Some q taken b 0 block in
      let within : b < 64 = omega (arith, in_taken.0, h.blocks) in
      h.some b within in_taken.1 (λ j l.
      ap p (sym (at_block held b n j size l)) ∙ passes_nowhere p (take n (drop (b * 64) held)) j None none (omega (arith, length_block held b n size h.whole within)))

  -- ── the last place
  pub last_in_blocks : (b at n : ℕ) → n ≡ 64 → IsLastPlace q taken (Some b) → IsLastPlace p (take n (drop (b * 64) held)) (Some at) → IsLastPlace p held (Some (b * 64 + at))
  last_in_blocks b at n size block place =
      let within : b < 64 = omega (arith, block.0, h.blocks) in
      let small : at < 64 = omega (arith, place.0, length_block held b n size h.whole within) in
      let inside : b * 64 + at < length held = omega (arith, h.whole) in
      let same : at_place held (64 * b + at) ≡ at_place held (b * 64 + at) = ap (at_place held) (omega arith) in (
        inside,
        λ d. ap p (get_or_default held (b * 64 + at) d None inside ∙ sym (at_block held b n at size small ∙ same)) ∙ place.1 None,
        λ k d l m. ap p (get_or_default held k d None m) ∙ after_place (λ i. p (at_place held i)) b at
            (λ c j x y z. h.none c j y (block.2 c 0 x (omega (arith, h.blocks))) z)
            (λ j x y. ap p (sym (at_block held b n j size y)) ∙ place.2 j None x (omega (arith, length_block held b n size h.whole within)))
            k l (omega (arith, h.whole)),
      )

  pub no_last_in_blocks : IsLastPlace q taken None → IsLastPlace p held None
  no_last_in_blocks none k d l = ap p (get_or_default held k d None l) ∙ nowhere (λ b m. none b 0 (omega (arith, h.blocks))) k (omega (arith, h.whole))

  pub some_last_in_block : (b n : ℕ) → n ≡ 64 → IsLastPlace q taken (Some b) → IsLastPlace p (take n (drop (b * 64) held)) None → ⊥
  some_last_in_block b n size block none = h.some b (omega (arith, block.0, h.blocks)) (block.1 0) (λ j l.
      ap p (sym (at_block held b n j size l)) ∙ none j None (omega (arith, length_block held b n size h.whole (omega (arith, block.0, h.blocks)))))
