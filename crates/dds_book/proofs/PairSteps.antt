-- Each step on the table of a pair keeps its rule.
use Rattle.std.proofs.Common.{◌≡◌, ◌≢◌, ℕ, zero, suc, ◌+◌, ◌%◌, ◌^◌, ◌<◌, ◌≤◌, List, [], ◌∷◌, ◌++◌, get_or, set, refl, sym, ap, ◌∙◌, subst, ⊎_elim, arith, length-set, get_or-set_same}
use mathlib.Core.Option.{none, some, some-injective, some-ne-none}
use lib.ListN.{get_elem?}
use Rattle.atomic_table.specs.Table.{Me, step, keeps, opening, Allows, Splits, Joins}
use Rattle.atomic_table.proofs.Lists.{at_set, at_snoc}
use Rattle.dds_book.specs.declared.halves.PairView.{PairView}
use Rattle.dds_book.specs.Halves.{whole, half, spent, both, parts_of, entries_by, IsPair, grown, compared}

module _ {E : Type 0} where
  -- ── parts
  -- the parts of all views after one view was changed
  parts_set : (views : List (PairView E)) (i : ℕ) (v w : PairView E) → get_elem? views i ≡ some v → parts_of (set views i w) + v.parts ≡ parts_of views + w.parts
  parts_set [] i v w at = absurd (some-ne-none v (sym at))
  parts_set (x ∷ xs) zero v w at = let is : x.parts ≡ v.parts = ap (λ (m : PairView E). m.parts) (some-injective x v at) in omega arith
  parts_set (x ∷ xs) (suc i) v w at = let r = parts_set xs i v w at in omega arith

  -- the parts of all views after one came
  parts_snoc : (views : List (PairView E)) (w : PairView E) → parts_of (views ++ w ∷ []) ≡ parts_of views + w.parts
  parts_snoc [] w = omega arith
  parts_snoc (x ∷ xs) w = let r = parts_snoc xs w in omega arith

  -- one view has no more parts than all
  parts_one : (views : List (PairView E)) (i : ℕ) (v : PairView E) → get_elem? views i ≡ some v → v.parts ≤ parts_of views
  parts_one [] i v at = absurd (some-ne-none v (sym at))
  parts_one (x ∷ xs) zero v at = let is : x.parts ≡ v.parts = ap (λ (m : PairView E). m.parts) (some-injective x v at) in omega arith
  parts_one (x ∷ xs) (suc i) v at = let r = parts_one xs i v at in omega arith

  -- nor have two views
  parts_two : (views : List (PairView E)) (i j : ℕ) (v w : PairView E) → i ≢ j → get_elem? views i ≡ some v → get_elem? views j ≡ some w → v.parts + w.parts ≤ parts_of views
  parts_two [] i j v w apart at there = absurd (some-ne-none v (sym at))
  parts_two (x ∷ xs) zero zero v w apart at there = absurd (apart refl)
  parts_two (x ∷ xs) zero (suc j) v w apart at there = let is : x.parts ≡ v.parts = ap (λ (m : PairView E). m.parts) (some-injective x v at) in let r = parts_one xs j w there in omega arith
  parts_two (x ∷ xs) (suc i) zero v w apart at there = let is : x.parts ≡ w.parts = ap (λ (m : PairView E). m.parts) (some-injective x w there) in let r = parts_one xs i v at in omega arith
  parts_two (x ∷ xs) (suc i) (suc j) v w apart at there = let r = parts_two xs i j v w (λ h. apart (ap suc h)) at there in omega arith

  -- a view with a part, joined with another, has a part
  pub some_both : (v w u : PairView E) → 0 < v.parts → u ≡ both v w → 0 < u.parts
  some_both v w u some_v is = let n : u.parts ≡ v.parts + w.parts = ap (λ (x : PairView E). x.parts) is in omega arith

  -- two views with a part each make one with both
  pub two_both : (v w u : PairView E) → 0 < v.parts → 0 < w.parts → u ≡ both v w → 1 < u.parts
  two_both v w u some_v some_w is = let n : u.parts ≡ v.parts + w.parts = ap (λ (x : PairView E). x.parts) is in omega arith

  -- ── fronts
  -- a view that has a part has this front
  abbrev Fit : List E → PairView E → Type 0
  Fit entries v = 0 < v.parts → (v.front ≡ entries) × (v.beside ≡ entries)

  -- each view fits after one was changed, where the new one fits and the others do
  fits_set : (now : List E) (views : List (PairView E)) (i : ℕ) (w : PairView E) → ((j : ℕ) (u : PairView E) → j ≢ i → get_elem? views j ≡ some u → Fit now u) → Fit now w
      → (j : ℕ) (u : PairView E) → get_elem? (set views i w) j ≡ some u → Fit now u
  fits_set now views i w others mine j u at =
      ⊎_elim (λ (t : (j ≡ i) × (w ≡ u)). subst (Fit now) t.1 mine) (λ (t : (j ≢ i) × (get_elem? views j ≡ some u)). others j u t.0 t.1) (at_set views i j w u at)

  module _ (owner : E → ℕ) (by : ℕ) where
    -- ── steps
    -- a new table has the whole of a pair with an empty front
    pub begins : IsPair owner by (opening (0 ∷ []) [] (whole []))
    begins = record { entries = []; one_word = refl; counted = refl; parts = refl; fits = one }
      where
        one : (i : ℕ) (v : PairView E) → get_elem? (whole [] ∷ []) i ≡ some v → Fit [] v
        one zero v at = subst (Fit []) (some-injective _ _ at) (λ _. (refl, refl))
        one (suc i) v at = absurd (some-ne-none v (sym at))

    -- two halves are joined
    pub joins : (id : ℕ) (v : PairView E) (other : ℕ) (w : PairView E) → 0 < v.parts → 0 < w.parts → Joins (IsPair owner by) id v other w (both v w) spent
    joins id v other w some_v some_w s r at apart there =
        let theirs : get_elem? s.views other ≡ some w =
        ⊎_elim (λ (t : (other ≡ id) × (both v w ≡ w)). absurd (apart t.0)) (λ (t : (other ≢ id) × (get_elem? s.views other ≡ some w)). t.1) (at_set s.views id other (both v w) w there) in
        let joined = parts_set s.views id v (both v w) at in
        let given = parts_set (set s.views id (both v w)) other w spent there in
        let two = r.parts in
        record {
          entries = r.entries;
          one_word = r.one_word;
          counted = r.counted;
          parts = omega arith;
          fits = fits_set r.entries (set s.views id (both v w)) other spent
              (λ j u _ e. fits_set r.entries s.views id (both v w) (λ i t _ e'. r.fits i t e') (λ _. ((r.fits id v at some_v).0, (r.fits other w theirs some_w).0)) j u e)
              (λ none. absurd (omega arith));
        }

    -- whoever has the whole may change the front to one with an entry more of the owner
    pub grows : (slots id : ℕ) (me : Me (Unit {0}) (PairView E)) (front : List E) → 1 < me.0.parts → entries_by owner by front ≡ entries_by owner by me.0.front + 1 → entries_by owner by front < 2 ^ 63
        → Allows (IsPair owner by) slots id me 0 (λ n. (n + 1) % 2 ^ 64) (grown front (step slots 0 1 0 none) me)
    grows slots id me front two more room s r _ at small =
        let mine = r.fits id me.0 at (omega arith) in
        let w : PairView E = whole front in
        let changed = parts_set s.views id me.0 w at in
        let most = parts_one s.views id me.0 at in
        let all = r.parts in
        let x : ℕ = get_or s.words 0 0 in
        let is : x ≡ entries_by owner by me.0.front = r.counted ∙ ap (entries_by owner by) (sym mine.0) in
        let new : (x + 1) % 2 ^ 64 ≡ entries_by owner by front = omega arith in
        let wide = r.one_word in (
          w,
          keeps,
          tt,
          record {
            entries = front;
            one_word = length-set s.words 0 ((x + 1) % 2 ^ 64) ∙ wide;
            counted = get_or-set_same s.words 0 ((x + 1) % 2 ^ 64) 0 (omega arith) ∙ new;
            parts = omega arith;
            fits = fits_set front s.views id w (λ j u apart e some_part. let q = parts_two s.views id j me.0 u (λ h. apart (sym h)) at e in absurd (omega arith)) (λ _. (refl, refl));
          },
          (mine.0 ∙ sym mine.1, refl, refl),
        )

    -- whoever has a part sees, by looking at the word, that the two fronts are equal
    pub compares : (slots id : ℕ) (me : Me (Unit {0}) (PairView E)) → 0 < me.0.parts → Allows (IsPair owner by) slots id me 0 (λ n. n) (compared (step slots 0 0 0 none) me)
    compares slots id me some_part s r _ at small =
        let mine = r.fits id me.0 at some_part in
        let x : ℕ = get_or s.words 0 0 in
        let wide = r.one_word in
        let same = parts_set s.views id me.0 me.0 at in
        let all = r.parts in (
          me.0,
          keeps,
          tt,
          record {
            entries = r.entries;
            one_word = length-set s.words 0 x ∙ wide;
            counted = get_or-set_same s.words 0 x 0 (omega arith) ∙ r.counted;
            parts = omega arith;
            fits = fits_set r.entries s.views id me.0 (λ j u _ e. r.fits j u e) (λ _. mine);
          },
          (mine.0 ∙ sym mine.1, refl),
        )

    -- the whole is cut in two
    pub halves : (id : ℕ) (v : PairView E) → v.parts ≡ 2 → Splits (IsPair owner by) id v (half v) (half v)
    halves id v two s r at =
        let mine = r.fits id v at (omega arith) in
        let h : PairView E = half v in
        let cut = parts_set s.views id v h at in
        let came = parts_snoc (set s.views id h) h in
        let all = r.parts in
        let fit : Fit r.entries h = λ _. (mine.0, mine.0) in
        record {
          entries = r.entries;
          one_word = r.one_word;
          counted = r.counted;
          parts = omega arith;
          fits = λ j u e. ⊎_elim (λ (was : get_elem? (set s.views id h) j ≡ some u). fits_set r.entries s.views id h (λ i t _ e'. r.fits i t e') fit j u was) (λ (same : h ≡ u). subst (Fit r.entries) same fit)
              (at_snoc (set s.views id h) h u j e);
        }
