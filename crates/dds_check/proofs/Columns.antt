-- The first that is there of a grid, by row and then by column, as a loop over the columns finds it.
use Rattle.std.proofs.Common.{ℕ, ◌≡◌, ◌+◌, ◌<◌, ◌≤◌, Option, Some, None, refl, sym, ap, ◌∙◌, arith, add-one, inl, inr}
use Rattle.std.proofs.lemmas.Bool.{cases_lt}
use Rattle.dds_runs.specs.First.{◌orElse◌, first_below}
use Rattle.dds_check.specs.Rows.{IsFirstBelow}
use Rattle.dds_check.proofs.FirstLemmas.{first_below_start, first_below_found, first_below_more, first_below_none, first_below_all}

module _ {A : Type 0} (rows : ℕ) (f : ℕ → ℕ → Option A) where
  -- among the columns below `columns`, no row before `end` has one that is there, and what `end` has first is `first`
  pub record IsFirstSoFar (columns end : ℕ) (first : Option A) : Type 0 where
    pub within : end ≤ rows
    pub before : (w : ℕ) → w < end → first_below columns (f w) ≡ None
    pub here : end < rows → (x : A) × (first_below columns (f end) ≡ Some x) × (first ≡ Some x)
    pub none : rows ≤ end → first ≡ None

  pub first_start : (end : ℕ) → end ≡ rows → IsFirstSoFar 0 end None
  first_start end same = record {
    within = omega arith;
    before = λ w l. first_below_start (f w);
    here = λ l. absurd (omega arith);
    none = λ l. refl;
  }

  later : (w n : ℕ) (x : A) → first_below n (f w) ≡ Some x → first_below (n + 1) (f w) ≡ Some x
  unfolding first_below
  later w n x h = rw (add-one, h) refl

  now : (w n : ℕ) (x : A) → first_below n (f w) ≡ None → f w n ≡ Some x → first_below (n + 1) (f w) ≡ Some x
  unfolding first_below
  now w n x none h = rw (add-one, none) h

  -- the next column has none before `end`
  pub first_kept : (n end : ℕ) (first : Option A) → IsFirstSoFar n end first → first_below end (λ w. f w n) ≡ None → IsFirstSoFar (n + 1) end first
  first_kept n end first so_far empty = record {
    within = so_far.within;
    before = λ w l. first_below_more (f w) n (so_far.before w l) (first_below_none (λ v. f v n) end empty w l);
    here = λ l. let h = so_far.here l in (h.0, later end n h.0 h.1, h.2);
    none = so_far.none;
  }

  -- the next column has one
  pub first_moved : (n end w : ℕ) (first : Option A) (x : A) → IsFirstSoFar n end first → IsFirstBelow end (λ v. f v n) w x → IsFirstSoFar (n + 1) w (Some x)
  first_moved n end w first x so_far found =
      let low = found.within in
      let top = so_far.within in
      record {
        within = omega arith;
        before = λ v l. first_below_more (f v) n (so_far.before v (omega arith)) (first_below_none (λ u. f u n) w found.before v l);
        here = λ l. (x, now w n x (so_far.before w low) found.here, refl);
        none = λ l. absurd (omega arith);
      }

  pub first_whole : (n end : ℕ) (first : Option A) → IsFirstSoFar n end first → first ≡ first_below rows (λ w. first_below n (f w))
  first_whole n end first so_far = elim (cases_lt end rows) [
    | inl low ↦ (
        let h = so_far.here low in
        h.2 ∙ sym (first_below_found (λ w. first_below n (f w)) end end rows h.0 refl (first_below_all (λ w. first_below n (f w)) end so_far.before) h.1 low))
    | inr past ↦ so_far.none past ∙ sym (first_below_all (λ w. first_below n (f w)) rows (λ w l. so_far.before w (omega arith)))
  ]
