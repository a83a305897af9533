-- What the counts of the bus's blocks tell, and the counts after a change of one place.
use Rattle.std.proofs.Common.{◌≡◌, ◌≢◌, inl, inr, ℕ, ◌+◌, ◌-◌, ◌*◌, ◌/◌, ◌%◌, ◌≤◌, ◌<◌, true, false, not, nat_lt, List, length, Option, Some, None, set, replicate, refl, sym, ap, subst, ◌∙◌, arith, length-set, cond, ltb}
use Rattle.std.specs.Prelude.{is_none, is_some, slice_index_or}
use Rattle.std.proofs.lemmas.Bool.{cases_eq, cases_lt, cond-true, cond-false, lt-ltb, le-ltb, ltb-true, ltb-false, both_ways, not-true, not-false}
use Rattle.std.proofs.lemmas.List.{get_or-set_same, get_or-set_other, get_or_default, get_or-replicate, get_or_past, length-replicate}
use Rattle.std.proofs.lemmas.List.Quantifiers.{position-Some}
use Rattle.dds_base.specs.Sums.{least}
use Rattle.dds_base.proofs.SumLaws.{least_le, least_least}
use Rattle.dds_base.specs.declared.messages.Packet.{Packet}
use Rattle.dds_runs.specs.Steps.{places}
use Rattle.dds_domain.specs.Bus.{at_place, sent_to, free_above, last_taken, taken_from, taken_count, IsCounted, IsLastPlace}
use Rattle.dds_domain.proofs.Counting.{count_same, count_le, count_none, count_all, count_zero, count_full, count_some, count_more}
use Rattle.dds_domain.proofs.Blocks.{Tells}

pub some_or_none : (o : Option Packet) → is_none o ≡ not (is_some o)
some_or_none None = refl
some_or_none (Some p) = refl

-- ── what the counts tell
-- a count above 0 tells of a packet in the block
pub tells_packets : (held : List (Option Packet)) (taken : List ℕ) (count : ℕ) → IsCounted held taken count → Tells is_some (nat_lt 0) held taken
tells_packets held taken count h = record {
  whole = h.whole;
  blocks = h.blocks;
  none = λ b j l none m. count_none (λ i. is_some (at_place held (64 * b + i))) 64 j (omega (arith, h.each b l, ltb-false 0 (slice_index_or taken b 0) none)) m;
  some = λ b l some fails. absurd (omega (arith, h.each b l, ltb-true 0 (slice_index_or taken b 0) some, count_zero (λ i. is_some (at_place held (64 * b + i))) 64 fails));
}

-- a count below 64 tells of a free place in the block
pub tells_free : (held : List (Option Packet)) (taken : List ℕ) (count : ℕ) → IsCounted held taken count → Tells is_none (λ n. nat_lt n 64) held taken
tells_free held taken count h = record {
  whole = h.whole;
  blocks = h.blocks;
  none = λ b j l none m.
      some_or_none (at_place held (64 * b + j)) ∙ ap not (count_all (λ i. is_some (at_place held (64 * b + i))) 64 j (omega (arith, h.each b l, ltb-false (slice_index_or taken b 0) 64 none)) m);
  some = λ b l some fails.
      absurd (omega (
        arith,
        h.each b l,
        ltb-true (slice_index_or taken b 0) 64 some,
        count_full (λ i. is_some (at_place held (64 * b + i))) 64 (λ j m. not-false (is_some (at_place held (64 * b + j))) (sym (some_or_none (at_place held (64 * b + j))) ∙ fails j m)),
      ));
}

-- ── the last place
-- the last place that is taken
pub last_taken_is : (held : List (Option Packet)) (i : ℕ) → length held ≡ places → IsLastPlace is_some held (Some i) → last_taken held ≡ Some i
last_taken_is held i whole last =
    let back = λ (k : ℕ). is_some (at_place held (places - 1 - k)) in
    let here : places - 1 - (places - 1 - i) ≡ i = omega (arith, last.0) in
    let low : least back places 0 ≤ places - 1 - i = least_le back places 0 (places - 1 - i) (omega arith) (ap (λ k. is_some (at_place held k)) here ∙ last.1 None) in
    let high : places - 1 - i ≤ least back places 0 = least_least back places 0 (places - 1 - i) (omega arith) (λ k a b. last.2 (places - 1 - k) None (omega (arith, last.0)) (omega arith)) in
    let same : free_above held ≡ places - 1 - i = omega arith in
    ap (λ k. cond (ltb k places) (Some (places - 1 - k)) None) same
    ∙ cond-true (ltb (places - 1 - i) places) (Some (places - 1 - (places - 1 - i))) None (lt-ltb (places - 1 - i) places (omega arith))
    ∙ ap Some here

pub none_taken_is : (held : List (Option Packet)) → length held ≡ places → IsLastPlace is_some held None → last_taken held ≡ None
none_taken_is held whole none =
    let back = λ (k : ℕ). is_some (at_place held (places - 1 - k)) in
    let high : places ≤ least back places 0 = least_least back places 0 places (omega arith) (λ k a b. none (places - 1 - k) None (omega arith)) in
    cond-false (ltb (free_above held) places) (Some (places - 1 - free_above held)) None (le-ltb (free_above held) places high)

-- ── a change of one place
module _ (old new : List (Option Packet)) (i : ℕ) (others : (k : ℕ) → i ≢ k → at_place old k ≡ at_place new k) where
  same_elsewhere : (start n : ℕ) → ((j : ℕ) → j < n → i ≢ start + j) → taken_from old start n ≡ taken_from new start n
  same_elsewhere start n apart = count_same (λ j. is_some (at_place old (start + j))) (λ j. is_some (at_place new (start + j))) n (λ j l. ap is_some (others (start + j) (apart j l)))

  more_there : (start n j : ℕ) → j < n → start + j ≡ i → is_some (at_place old i) ≡ false → is_some (at_place new i) ≡ true → taken_from new start n ≡ taken_from old start n + 1
  more_there start n j l at free taken =
      count_more (λ k. is_some (at_place old (start + k))) (λ k. is_some (at_place new (start + k))) n j l
      (ap (λ k. is_some (at_place old k)) at ∙ free) (ap (λ k. is_some (at_place new k)) at ∙ taken)
      (λ k ne. ap is_some (others (start + k) (λ e. ne (omega arith))))

  -- the counts, where that of the place's block and that of all are right
  pub recounted : (taken : List ℕ) (count n all : ℕ) → i < places → length new ≡ length old → n ≡ taken_from new (64 * (i / 64)) 64 → all ≡ taken_count new → IsCounted old taken count → IsCounted new (set taken (i / 64) n) all
  recounted taken count n all inside same here total h = record {
    whole = same ∙ h.whole;
    blocks = length-set taken (i / 64) n ∙ h.blocks;
    each = λ b l. elim (cases_eq (i / 64) b) [
      | inl e ↦ subst (λ k. slice_index_or (set taken (i / 64) n) k 0 ≡ taken_from new (64 * k) 64) e (get_or-set_same taken (i / 64) n 0 (omega (arith, h.blocks)) ∙ here)
      | inr ne ↦ get_or-set_other taken (i / 64) b n 0 (λ e. ne (sym e)) ∙ h.each b l ∙ same_elsewhere (64 * b) 64 (λ j m e. ne (omega arith))
    ];
    all = total;
  }

-- ── the bus's calls
-- a block holds at most 64 packets, and the bus at most all of its places
pub block_count : (held : List (Option Packet)) (taken : List ℕ) (count i n : ℕ) → IsCounted held taken count → i < places → n ≡ slice_index_or taken (i / 64) n → n ≡ taken_from held (64 * (i / 64)) 64
block_count held taken count i n h inside read = read ∙ get_or_default taken (i / 64) n 0 (omega (arith, h.blocks)) ∙ h.each (i / 64) (omega arith)

pub block_count_le : (held : List (Option Packet)) (taken : List ℕ) (count i n : ℕ) → IsCounted held taken count → i < places → n ≡ slice_index_or taken (i / 64) n → n ≤ 64
block_count_le held taken count i n h inside read = omega (arith, block_count held taken count i n h inside read, count_le (λ j. is_some (at_place held (64 * (i / 64) + j))) 64)

pub all_count_le : (held : List (Option Packet)) (taken : List ℕ) (count : ℕ) → IsCounted held taken count → count ≤ places
all_count_le held taken count h = omega (arith, h.all, count_le (λ j. is_some (at_place held (0 + j))) places)

-- the place that a packet is sent to is free
pub free_there : (held : List (Option Packet)) (i : ℕ) → length held ≡ places → sent_to held ≡ Some i → (i < places) × (is_some (at_place held i) ≡ false)
free_there held i whole to =
    let found = position-Some is_none held i None to in
    (omega (arith, found.0), not-true (is_some (at_place held i)) (sym (some_or_none (at_place held i)) ∙ found.1))

-- a taken place is within the bus
pub taken_within : (held : List (Option Packet)) (i : ℕ) → length held ≡ places → is_some (at_place held i) ≡ true → i < places
taken_within held i whole taken = elim (cases_lt i places) [
  | inl lt ↦ lt
  | inr ge ↦ absurd (both_ways (is_some (at_place held i)) (ap is_some (get_or_past held i None (omega arith))) taken)
]

pub counted_sent : (held : List (Option Packet)) (taken : List ℕ) (count i n : ℕ) (p : Packet) → IsCounted held taken count → sent_to held ≡ Some i → n ≡ slice_index_or taken (i / 64) n → IsCounted (set held i (Some p)) (set taken (i / 64) (n + 1)) (count + 1)
counted_sent held taken count i n p h to read =
    let there = free_there held i h.whole to in
    let new = set held i (Some p) in
    let others : (k : ℕ) → i ≢ k → at_place held k ≡ at_place new k = λ k ne. sym (get_or-set_other held i k (Some p) None (λ e. ne (sym e))) in
    let taken_now : is_some (at_place new i) ≡ true = ap is_some (get_or-set_same held i (Some p) None (omega (arith, there.0, h.whole))) in
    recounted held new i others taken count (n + 1) (count + 1) there.0 (length-set held i (Some p))
    (omega (arith, block_count held taken count i n h there.0 read, more_there held new i others (64 * (i / 64)) 64 (i % 64) (omega arith) (omega arith) there.1 taken_now))
    (omega (arith, h.all, more_there held new i others 0 places i there.0 (omega arith) there.1 taken_now))
    h

pub counted_cleared : (held : List (Option Packet)) (taken : List ℕ) (count i n : ℕ) → IsCounted held taken count → is_some (at_place held i) ≡ true → n ≡ slice_index_or taken (i / 64) n → IsCounted (set held i None) (set taken (i / 64) (n - 1)) (count - 1)
counted_cleared held taken count i n h there read =
    let inside = taken_within held i h.whole there in
    let new = set held i None in
    let others : (k : ℕ) → i ≢ k → at_place held k ≡ at_place new k = λ k ne. sym (get_or-set_other held i k None None (λ e. ne (sym e))) in
    let back : (k : ℕ) → i ≢ k → at_place new k ≡ at_place held k = λ k ne. sym (others k ne) in
    let free_now : is_some (at_place new i) ≡ false = ap is_some (get_or-set_same held i None None (omega (arith, inside, h.whole))) in
    recounted held new i others taken count (n - 1) (count - 1) inside (length-set held i None)
    (omega (arith, block_count held taken count i n h inside read, more_there new held i back (64 * (i / 64)) 64 (i % 64) (omega arith) (omega arith) free_now there))
    (omega (arith, h.all, more_there new held i back 0 places i inside (omega arith) free_now there))
    h

-- a taken place is counted
pub block_count_some : (held : List (Option Packet)) (taken : List ℕ) (count i n : ℕ) → IsCounted held taken count → is_some (at_place held i) ≡ true → n ≡ slice_index_or taken (i / 64) n → 1 ≤ n
block_count_some held taken count i n h there read =
    let inside = taken_within held i h.whole there in
    let at : i ≡ 64 * (i / 64) + i % 64 = omega arith in
    omega (
      arith,
      block_count held taken count i n h inside read,
      count_some (λ j. is_some (at_place held (64 * (i / 64) + j))) 64 (i % 64) (omega arith) (ap (λ k. is_some (at_place held k)) (sym at) ∙ there),
    )

pub all_count_some : (held : List (Option Packet)) (taken : List ℕ) (count i : ℕ) → IsCounted held taken count → is_some (at_place held i) ≡ true → 1 ≤ count
all_count_some held taken count i h there =
    let at : 0 + i ≡ i = omega arith in
    omega (arith, h.all, count_some (λ j. is_some (at_place held (0 + j))) places i (taken_within held i h.whole there) (ap (λ k. is_some (at_place held k)) at ∙ there))

-- the bus without packets
pub counted_empty : (held : List (Option Packet)) (taken : List ℕ) → held ≡ replicate places None → taken ≡ replicate 64 0 → IsCounted held taken 0
counted_empty held taken e f =
    let none : (i : ℕ) → i < places → is_some (at_place held i) ≡ false = λ i l. ap (λ ss. is_some (at_place ss i)) e ∙ ap is_some (get_or-replicate places i None None l) in
    record {
      whole = ap length e ∙ length-replicate {A = Option Packet} places None;
      blocks = ap length f ∙ length-replicate {A = ℕ} 64 0;
      each = λ b l. ap (λ ns. slice_index_or ns b 0) f ∙ get_or-replicate 64 b 0 0 l ∙ sym (count_zero (λ j. is_some (at_place held (64 * b + j))) 64 (λ j m. none (64 * b + j) (omega arith)));
      all = sym (count_zero (λ j. is_some (at_place held (0 + j))) places (λ j m. none (0 + j) (omega arith)));
    }
