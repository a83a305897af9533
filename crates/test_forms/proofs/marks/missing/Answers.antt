use Rattle.std.proofs.Common.{◌≡◌, ℕ, ◌+◌, ◌≤◌, ◌&&◌, ◌==◌, ◌||◌, ltb, leb, not, Bool, true, ap, sym, ◌∙◌, arith, inl, inr}
use Rattle.std.proofs.lemmas.Bool.{cases_lt, lt-leb, false≢true, and_left}
use Rattle.dds_base.specs.Sets.{NumberSet, has, set_of}
use Rattle.dds_base.proofs.SetLaws.{set_starts, set_grows, set_stays, set_ends}
use Rattle.dds_reader.specs.Marks.{in_marks, is_wanted}
use Rattle.test_forms.proofs.marks.missing.Goals as goal
use Rattle.test_forms.proofs.marks.missing.Goals.{then-wants, else-wants}

-- a wanted number was heard of
heard_of : (marks : ℕ → Bool) (heard n : ℕ) → is_wanted marks heard n ≡ true → n ≤ heard
heard_of marks heard n wanted = elim (cases_lt heard n) [
  | inl past ↦ absurd (false≢true (sym (and_left (leb n heard) (not (marks n)) (lt-leb n heard past)) ∙ wanted))
  | inr low ↦ low
]

pub loop-i-init : goal.loop-i-init
loop-i-init c =
    let wanted : ℕ → Bool = is_wanted (in_marks c.args.marks.now c.args.writer) c.args.heard in
    let at : c.args.base + 0 ≡ c.args.base = omega arith in
    c.empty-set.ensures ∙ set_starts c.args.base wanted ∙ ap (λ x. set_of c.args.base (λ n. ltb n x && wanted n)) (sym at)

pub insert-requires : goal.insert-requires
insert-requires c =
    let base : c.loop-i.set.base ≡ c.args.base = ap (λ (s : NumberSet). s.base) c.loop-i.invariant in
    let low : c.args.base + c.loop-i.i ≤ c.args.heard = heard_of (in_marks c.args.marks.now c.args.writer) c.args.heard (c.args.base + c.loop-i.i) (sym c.wants.ensures ∙ c.if-wants.true) in
    (omega (arith, base), omega (arith, base, c.loop-i-test.true), omega (arith, low, c.requires.heard))

pub loop-i-preserved : goal.loop-i-preserved
loop-i-preserved c =
    let wanted : ℕ → Bool = is_wanted (in_marks c.args.marks.now c.args.writer) c.args.heard in
    let n : ℕ = c.args.base + c.loop-i.i in
    let next : c.args.base + c.loop-i.i + 1 ≡ c.args.base + (c.loop-i.i + 1) = omega arith in
    elim c.if-wants.branch [
      | then-wants w ↦ w.set-is ∙ w.insert.ensures
          ∙ ap (λ (s : NumberSet). set_of s.base (λ m. has s m || (n == m))) c.loop-i.invariant
          ∙ set_grows c.args.base n wanted (sym c.wants.ensures ∙ w.if-wants.true)
          ∙ ap (λ x. set_of c.args.base (λ m. ltb m x && wanted m)) next
      | else-wants w ↦ w.set-is ∙ c.loop-i.invariant
          ∙ set_stays c.args.base n wanted (sym c.wants.ensures ∙ w.if-wants.false)
          ∙ ap (λ x. set_of c.args.base (λ m. ltb m x && wanted m)) next
    ]

pub returns : goal.returns
returns c = c.loop-i.invariant ∙ set_ends c.args.base (c.args.base + c.loop-i.i) (is_wanted (in_marks c.args.marks.now c.args.writer) c.args.heard) (λ n above within. absurd (omega (arith, above, within, c.loop-i-test.false)))
