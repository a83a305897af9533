use Rattle.std.proofs.Common.{◌≡◌, ℕ, ◌+◌, ◌*◌, ◌/◌, ◌%◌, ◌<◌, ◌≤◌, ◌==◌, false, List, get_or, ap, ◌∙◌, arith, inl, inr, refl}
use Rattle.std.specs.Int.{bit_at}
use Rattle.std.proofs.lemmas.Bool.{cases_lt}
use Rattle.std.proofs.lemmas.List.{get_or_past}
use Rattle.dds_base.specs.Words.{flags_in}
use Rattle.dds_base.specs.WordLaws.{get-flags_in, length-flags_in}
use Rattle.dds_base.proofs.words.next_flag.Goals as goal
use Rattle.dds_base.proofs.words.next_flag.Goals.{then-at-from, else-at-from}

-- a flag of the word at a place is its bit
flag_in_word : (words : List ℕ) (at k bit : ℕ) → at < 4 → at * 64 ≤ k → k < at * 64 + 64 → bit_at (get_or words at 0) (k % 64) ≡ bit → get_or (flags_in words) k false ≡ (bit == 1)
flag_in_word words at k bit low from to answer =
    let q : k / 64 ≡ at = omega arith in
    get-flags_in words k (omega arith) ∙ rw q refl ∙ ap (λ x. x == 1) answer

pub loop-at-preserved : goal.loop-at-preserved
loop-at-preserved c = record {
  low = omega (arith, c.loop-at.invariant.low);
  none = λ k from below. elim (cases_lt k (c.loop-at.at * 64)) [
    | inl before ↦ c.loop-at.invariant.none k from before
    | inr above ↦
        let low : c.if-at-from.first ≤ k % 64 = elim c.if-at-from.branch [
          | then-at-from w ↦ omega (arith, w.first-is, w.if-at-from.true, from, below, above)
          | else-at-from w ↦ omega (arith, w.first-is)
        ] in
        flag_in_word c.args.words.now c.loop-at.at k 0 c.loop-at-test.true above (omega (arith, below)) (c.in_default.ensures (k % 64) low)
  ];
}

pub returns-in-Some : goal.returns-in-Some
returns-in-Some c =
    let words = c.args.words.now in
    let at = c.loop-at.at in
    let bit = c.in-Some.bit in
    let found = c.in-Some.ensures in
    let inside : c.loop-at.at * 64 + c.in-Some.bit < 256 = omega (arith, found.1, c.loop-at-test.true) in
    let place : (c.loop-at.at * 64 + c.in-Some.bit) % 64 ≡ c.in-Some.bit = omega (arith, found.1) in (
      elim c.if-at-from.branch [
        | then-at-from w ↦ omega (arith, w.first-is, w.if-at-from.true, found.0)
        | else-at-from w ↦ omega (arith, w.if-at-from.false, c.loop-at.invariant.low)
      ],
      inside,
      flag_in_word words at (at * 64 + bit) 1 c.loop-at-test.true (omega arith) (omega (arith, found.1)) (ap (bit_at (get_or words at 0)) place ∙ found.2),
      λ j from below. elim (cases_lt j (c.loop-at.at * 64)) [
        | inl before ↦ c.loop-at.invariant.none j from before
        | inr above ↦
            let low : c.if-at-from.first ≤ j % 64 = elim c.if-at-from.branch [
              | then-at-from w ↦ omega (arith, w.first-is, w.if-at-from.true, from, below, above, found.1)
              | else-at-from w ↦ omega (arith, w.first-is)
            ] in
            flag_in_word words at j 0 c.loop-at-test.true above (omega (arith, below, found.1)) (found.3 (j % 64) low (omega (arith, below, above, found.1)))
      ],
    )

pub returns : goal.returns
returns c = λ k from. elim (cases_lt k (c.loop-at.at * 64)) [
  | inl before ↦ c.loop-at.invariant.none k from before
  | inr past ↦ get_or_past (flags_in c.args.words.now) k false (omega (arith, length-flags_in c.args.words.now, c.loop-at-test.false, past))
]
