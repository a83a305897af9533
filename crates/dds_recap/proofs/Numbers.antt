-- Maps whose keys are pairs of numbers, after a change at one key.
use Rattle.std.proofs.Common.{◌≡◌, ◌∙◌, ◌+◌, ◌≤◌, ◌<◌, ℕ, Bool, true, false, ◌&&◌, cond, Option, None, Some, refl, sym, ap, ap₂, subst, inl, inr, arith, Ordering, Less, Equal, Greater}
use Rattle.std.specs.Prelude.{max, unwrap_or, ◌==◌}
use Rattle.std.specs.Ordering.{nat_cmp, ordering_then, is_eq}
use Rattle.std.specs.BTreeMap.{BTreeMap, UpdatesBy, is_at}
use Rattle.std.specs.BTreeMap as tree
use Rattle.std.specs.Cmp.{unsigned_tied}
use Rattle.std.proofs.lemmas.Bool.{cases_eq, eq-eqb, ne_eqb}
use Rattle.dds_recap.specs.Tally.{IsMoreBy, IsSetAt, IsTight, KeepsMost, Rises, level_at, number_at, only_at, pair_cmp}
use Rattle.dds_recap.specs.declared.levels.Levels.{Levels}
use Rattle.dds_recap.specs.declared.tally.Tally.{Tally}

-- a pair is equal to another where both parts are
both_eq : (a b : Ordering) → is_eq (ordering_then a b) ≡ (is_eq a && is_eq b)
both_eq Less b = refl
both_eq Equal b = refl
both_eq Greater b = refl

-- where the order finds two pairs equal they are one
pair_is : (p q : ℕ × ℕ) → is_at (pair_cmp p) q ≡ ((p.0 == q.0) && (p.1 == q.1))
pair_is p q = both_eq (nat_cmp p.0 q.0) (nat_cmp p.1 q.1) ∙ ap₂ (λ (a b : Bool). a && b) (unsigned_tied p.0 q.0) (unsigned_tied p.1 q.1)

-- the value of each pair after a change at one
pub pair_changed : {V : Type 0} (m n : BTreeMap (ℕ × ℕ) V) (i k : ℕ) (w : Option V) → UpdatesBy pair_cmp (pair_cmp (i, k)) m n w → (a b : ℕ)
    → tree.get pair_cmp n (a, b) ≡ cond ((i == a) && (k == b)) w (tree.get pair_cmp m (a, b))
pair_changed {V} m n i k w u a b = elim (cases_eq i a) [
  | inl e ↦ elim (cases_eq k b) [
    | inl f ↦ rw (eq-eqb i a e, eq-eqb k b f) (ap (λ (x : ℕ). tree.get pair_cmp n (x, b)) (sym e) ∙ (ap (λ (y : ℕ). tree.get pair_cmp n (i, y)) (sym f) ∙ u.1))
    | inr ne ↦ rw (eq-eqb i a e, ne_eqb k b ne) (u.2 (a, b) (pair_is (i, k) (a, b) ∙ rw (eq-eqb i a e, ne_eqb k b ne) refl))
  ]
  | inr ne ↦ rw (ne_eqb i a ne) (u.2 (a, b) (pair_is (i, k) (a, b) ∙ rw (ne_eqb i a ne) refl))
]

-- the value of each number after a change at one
pub number_changed : {V : Type 0} (m n : BTreeMap ℕ V) (i : ℕ) (w : Option V) → UpdatesBy nat_cmp (nat_cmp i) m n w → (a : ℕ)
    → tree.get nat_cmp n a ≡ cond (i == a) w (tree.get nat_cmp m a)
number_changed m n i w u a = elim (cases_eq i a) [
  | inl e ↦ rw (eq-eqb i a e) (ap (λ (x : ℕ). tree.get nat_cmp n x) (sym e) ∙ u.1)
  | inr ne ↦ rw (ne_eqb i a ne) (u.2 a (unsigned_tied i a ∙ ne_eqb i a ne))
]

-- ── numbers of a tally
-- what stands for nothing goes into a choice
or_zero : (b : Bool) (n : ℕ) (o : Option ℕ) → unwrap_or (cond b (Some n) o) 0 ≡ cond b n (unwrap_or o 0)
or_zero true n o = refl
or_zero false n o = refl

-- a number was set
pub number_set : (old new : Tally) (i k n : ℕ) → UpdatesBy pair_cmp (pair_cmp (i, k)) old.numbers new.numbers (Some n) → IsSetAt i k n old new
number_set old new i k n u = record {
  numbers = λ a b.
      ap (λ (o : Option ℕ). unwrap_or o 0) (pair_changed old.numbers new.numbers i k (Some n) u a b)
      ∙ or_zero ((i == a) && (k == b)) n (tree.get pair_cmp old.numbers (a, b));
}

-- the sum was set
pub number_added : (old new : Tally) (i k n sum : ℕ) → IsSetAt i k sum old new → sum ≡ number_at old i k + n → IsMoreBy (only_at i k n) old new
number_added old new i k n sum set is = record { numbers = λ a b. set.numbers a b ∙ by a b }
  where
    by : (a b : ℕ) → cond ((i == a) && (k == b)) sum (number_at old a b) ≡ number_at old a b + only_at i k n a b
    by a b = elim (cases_eq i a) [
      | inl e ↦ elim (cases_eq k b) [
        | inl f ↦ rw (eq-eqb i a e, eq-eqb k b f) (is ∙ (ap (λ (x : ℕ). number_at old x k + n) e ∙ ap (λ (y : ℕ). number_at old a y + n) f))
        | inr ne ↦ rw (eq-eqb i a e, ne_eqb k b ne) (omega arith)
      ]
      | inr ne ↦ rw (ne_eqb i a ne) (omega arith)
    ]

-- the greater number was set, or it was there
pub number_raised : (old new : Tally) (i k n : ℕ) → IsSetAt i k n old new → number_at old i k < n → (a b : ℕ) → number_at new a b ≡ max (number_at old a b) (only_at i k n a b)
number_raised old new i k n set less a b = set.numbers a b ∙ (elim (cases_eq i a) [
  | inl e ↦ elim (cases_eq k b) [
    | inl f ↦
        let here : number_at old a b < n = subst (λ (x : ℕ). number_at old x b < n) e (subst (λ (y : ℕ). number_at old i y < n) f less) in
        rw (eq-eqb i a e, eq-eqb k b f) (omega arith)
    | inr ne ↦ rw (eq-eqb i a e, ne_eqb k b ne) (omega arith)
  ]
  | inr ne ↦ rw (ne_eqb i a ne) (omega arith)
])

pub number_kept : (old : Tally) (i k n : ℕ) → n ≤ number_at old i k → (a b : ℕ) → number_at old a b ≡ max (number_at old a b) (only_at i k n a b)
number_kept old i k n more a b = elim (cases_eq i a) [
  | inl e ↦ elim (cases_eq k b) [
    | inl f ↦
        let here : n ≤ number_at old a b = subst (λ (x : ℕ). n ≤ number_at old x b) e (subst (λ (y : ℕ). n ≤ number_at old i y) f more) in
        rw (eq-eqb i a e, eq-eqb k b f) (omega arith)
    | inr ne ↦ rw (eq-eqb i a e, ne_eqb k b ne) (omega arith)
  ]
  | inr ne ↦ rw (ne_eqb i a ne) (omega arith)
]

-- ── levels
-- one came, and the number of the most was raised to what is there
pub one_came : (old new : Levels) (i k level : ℕ) → IsMoreBy (only_at i k 1) old.came new.came → new.gone ≡ old.gone → level ≡ level_at new i k
    → ((a b : ℕ) → number_at new.most a b ≡ max (number_at old.most a b) (only_at i k level a b)) → IsTight old → KeepsMost old new
one_came old new i k level came gone is most tight = record { most = λ a b. most a b ∙ by a b }
  where
    by : (a b : ℕ) → max (number_at old.most a b) (only_at i k level a b) ≡ max (number_at old.most a b) (level_at new a b)
    by a b =
        let more = came.numbers a b in
        let same = ap (λ (t : Tally). number_at t a b) gone in
        let low = tight a b in
        elim (cases_eq i a) [
          | inl e ↦ elim (cases_eq k b) [
            | inl f ↦ rw (eq-eqb i a e, eq-eqb k b f) (ap (max (number_at old.most a b)) (is ∙ (ap (λ (x : ℕ). level_at new x k) e ∙ ap (λ (y : ℕ). level_at new a y) f)))
            | inr ne ↦
                let none : only_at i k 1 a b ≡ 0 = rw (eq-eqb i a e, ne_eqb k b ne) refl in
                rw (eq-eqb i a e, ne_eqb k b ne) (omega (arith, more, same, low, none))
          ]
          | inr ne ↦
              let none : only_at i k 1 a b ≡ 0 = rw (ne_eqb i a ne) refl in
              rw (ne_eqb i a ne) (omega (arith, more, same, low, none))
        ]

-- one went
pub one_gone : (old new : Levels) (i k : ℕ) → new.came ≡ old.came → IsMoreBy (only_at i k 1) old.gone new.gone → new.most ≡ old.most → IsTight old → KeepsMost old new
one_gone old new i k came gone most tight = record {
  most = λ a b.
      let same = ap (λ (t : Tally). number_at t a b) came in
      let more = gone.numbers a b in
      let low = tight a b in
      ap (λ (t : Tally). number_at t a b) most ∙ omega (arith, same, more, low);
}

-- nothing changed
pub unchanged_rises : (old new : Levels) → new ≡ old → Rises old new
unchanged_rises old new is tight = rw is (record { most = λ a b. (let low = tight a b in omega (arith, low)) })

-- the most stays the most
pub still_tight : (old new : Levels) → Rises old new → IsTight old → IsTight new
still_tight old new rises tight a b = let most = (rises tight).most a b in omega (arith, most)

-- one change after another, of which the first takes away
pub rises_after : (old mid new : Levels) → Rises old mid → ((a b : ℕ) → level_at mid a b ≤ level_at old a b) → Rises mid new → Rises old new
rises_after old mid new first less second tight = record {
  most = λ a b.
      let start = tight a b in
      let lower = less a b in
      let one = (first tight).most a b in
      let two = (second (still_tight old mid first tight)).most a b in
      omega (arith, start, lower, one, two);
}
