-- A writer's number in the list of writers.
use Rattle.std.proofs.Common.{◌≡◌, ℕ, ◌<◌, Bool, false, ◌==◌, Option, Some, None, List, length, get_or, refl, sym, ◌∙◌, arith, inl, inr, position}
use Rattle.std.specs.List.{position_or_len}
use Rattle.std.proofs.lemmas.List.Recursion.{found_at, found_nowhere}
use Rattle.std.proofs.lemmas.List.Quantifiers.{position-Some}
use Rattle.std.proofs.lemmas.List.Sums.{fails_before_first}
use Rattle.std.proofs.lemmas.Bool.{cases_lt, cond-true, lt-ltb}
use Rattle.dds_cache.specs.declared.released.Released.{Released}
use Rattle.dds_cache.specs.Released.{released_of}

-- a place is not nowhere
some_none : {o : Option ℕ} {n : ℕ} → o ≡ Some n → o ≡ None → ⊥
some_none e f = let h = sym e ∙ f in cc

-- the entry is of the writer
abbrev pub Of : ℕ → Released → Bool
Of w r = r.writer == w

-- the entry found has the released number
pub released_at : (w : ℕ) (rs : List Released) (i : ℕ) (d : Released) → position (Of w) rs ≡ Some i → (get_or rs i d).upto ≡ released_of w rs
released_at w rs i d e =
    let h = position-Some (Of w) rs i d e in
    sym (found_at (released_of w) (Of w) (λ r. r.upto) 0 refl (λ _ _. refl) rs i d h.0 h.2 h.1)

-- no entry is of a writer that is nowhere
none_at : (w : ℕ) (rs : List Released) (k : ℕ) (d : Released) → k < length rs → position (Of w) rs ≡ None → Of w (get_or rs k d) ≡ false
none_at w rs k d within e = elim (cases_lt (position_or_len (Of w) rs) (length rs)) [
  | inl found ↦ absurd (some_none (cond-true _ (Some (position_or_len (Of w) rs)) None (lt-ltb _ _ found)) e)
  | inr past ↦ fails_before_first (Of w) rs k d (omega arith)
]

-- nothing is released of a writer that is nowhere
pub released_none : (w : ℕ) (rs : List Released) (d : Released) → position (Of w) rs ≡ None → 0 ≡ released_of w rs
released_none w rs d e =
    sym (found_nowhere (released_of w) (Of w) (λ r. r.upto) 0 refl (λ _ _. refl) rs d (λ k within. none_at w rs k d within e))
