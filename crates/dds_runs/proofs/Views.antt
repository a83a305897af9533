-- How what a reader shows of a world changes: its base, its marks, its stored samples. For the code's steps.
use Rattle.std.proofs.Common.{◌≡◌, inl, inr, ℕ, Bool, true, false, cond, eqb, not, ◌&&◌, ◌||◌, List, [], ◌∷◌, ◌++◌, refl, sym, ap, subst, ◌∙◌}
use Rattle.std.specs.Prelude.{filter}
use Rattle.std.proofs.lemmas.Bool.{and_from, not_from_false, both_ways}
use Rattle.std.proofs.lemmas.List.Elements.{filter-append}
use Rattle.dds_base.specs.Sums.{put, In}
use Rattle.dds_match.specs.Network.{Network}
use Rattle.dds_runs.specs.World.{World, Sample, has_number, holds, is_same, marked, stored, is_stored}
use Rattle.dds_runs.specs.Steps.{GapFor, store, after_gap, covers, new_by_gap}
use Rattle.dds_base.proofs.SumLaws.{put_at}
use Rattle.dds_runs.proofs.StoredPlaces.{holds_in}
use Rattle.dds_runs.proofs.StoredSupply.{holds_append}
use Rattle.dds_runs.proofs.Sound.{Sound}
use Rattle.dds_runs.proofs.CountsWeights.{after_take}
use Rattle.dds_runs.proofs.OrderHistories.{number_in}

-- ── marks
pub number_push_is : (ss : List Sample) (s : Sample) (w n : ℕ) → has_number (ss ++ s ∷ []) w n ≡ (has_number ss w n || (eqb s.writer w && eqb s.sn n))
number_push_is [] s w n = or_false (eqb s.writer w && eqb s.sn n)
  where
    or_false : (a : Bool) → (a || false) ≡ a
    or_false true = refl
    or_false false = refl
number_push_is (t ∷ ss) s w n = ap (λ b. (eqb t.writer w && eqb t.sn n) || b) (number_push_is ss s w n) ∙ assoc (eqb t.writer w && eqb t.sn n) (has_number ss w n) (eqb s.writer w && eqb s.sn n)
  where
    assoc : (a b c : Bool) → (a || (b || c)) ≡ ((a || b) || c)
    assoc true b c = refl
    assoc false b c = refl

pub marked_store : (v : World) (r : ℕ) (s : Sample) (w n : ℕ) → marked (store v r s) r w n ≡ (marked v r w n || (eqb s.writer w && eqb s.sn n))
marked_store v r s w n = rw (put_at v.received r (v.received r ++ s ∷ [])) (ap (λ b. b || (v.irrelevant r w n || v.lost r w n)) (number_push_is (v.received r) s w n)
    ∙ swap (has_number (v.received r) w n) (eqb s.writer w && eqb s.sn n) (v.irrelevant r w n || v.lost r w n))
  where
    swap : (a b c : Bool) → ((a || b) || c) ≡ ((a || c) || b)
    swap true b c = refl
    swap false true true = refl
    swap false true false = refl
    swap false false true = refl
    swap false false false = refl

pub marked_gap : (v : World) (g : GapFor) (n : ℕ) → marked (after_gap v g) g.reader g.writer n ≡ (marked v g.reader g.writer n || covers g n)
marked_gap v g n = rw (put_at v.irrelevant g.reader (put (v.irrelevant g.reader) g.writer (λ m. v.irrelevant g.reader g.writer m || new_by_gap (marked v g.reader g.writer) g m)), put_at (v.irrelevant g.reader) g.writer (λ m. v.irrelevant g.reader g.writer m || new_by_gap (marked v g.reader g.writer) g m))
    (table (has_number (v.received g.reader) g.writer n) (v.irrelevant g.reader g.writer n) (v.lost g.reader g.writer n) (covers g n))
  where
    table : (a b c d : Bool) → (a || ((b || (d && not (a || (b || c)))) || c)) ≡ ((a || (b || c)) || d)
    table true b c d = refl
    table false true c d = refl
    table false false true true = refl
    table false false true false = refl
    table false false false true = refl
    table false false false false = refl

-- ── stored samples
filter_same : (p q : Sample → Bool) (ss : List Sample) → ((s : Sample) → In s ss → p s ≡ q s) → filter p ss ≡ filter q ss
filter_same p q [] e = refl
filter_same p q (s ∷ ss) e =
    ap (λ b. cond b (s ∷ filter p ss) (filter p ss)) (e s (inl refl)) ∙ ap (λ zs. cond (q s) (s ∷ zs) zs) (filter_same p q ss (λ t i. e t (inr i)))

filter_both : (p q : Sample → Bool) (ss : List Sample) → filter p (filter q ss) ≡ filter (λ s. q s && p s) ss
filter_both p q [] = refl
filter_both p q (s ∷ ss) = go (q s) (p s) (filter_both p q ss)
  where
    go : (a b : Bool) → filter p (filter q ss) ≡ filter (λ x. q x && p x) ss → filter p (cond a (s ∷ filter q ss) (filter q ss)) ≡ cond (a && p s) (s ∷ filter (λ x. q x && p x) ss) (filter (λ x. q x && p x) ss)
    go true b e = ap (λ zs. cond (p s) (s ∷ zs) zs) e
    go false b e = e

-- a sample that is stored stands at the end, where what was taken and overwritten had been stored
pub stored_more : (v : World) (r : ℕ) (s : Sample) → ((t : Sample) → In t (v.taken r) → In t (v.received r)) → ((t : Sample) → In t (v.overwritten r) → In t (v.received r)) → holds (v.received r) s ≡ false → stored (store v r s) r ≡ stored v r ++ s ∷ []
stored_more v r s taken over apart =
    ap (filter (is_stored v r)) (put_at v.received r (v.received r ++ s ∷ [])) ∙ (filter-append (is_stored v r) (v.received r) (s ∷ []) ∙ rw kept refl)
  where
    none : (ts : List Sample) → ((t : Sample) → In t ts → In t (v.received r)) → (b : Bool) → holds ts s ≡ b → holds ts s ≡ false
    none ts within false e = e
    none ts within true e = absurd (let x = number_in ts s.writer s.sn e in both_ways (holds (v.received r) s) apart
        (subst (λ n. has_number (v.received r) s.writer n ≡ true) x.3 (subst (λ w. has_number (v.received r) w x.0.sn ≡ true) x.2 (holds_in (v.received r) x.0 (within x.0 x.1)))))

    kept : is_stored v r s ≡ true
    kept = and_from (not (holds (v.taken r) s)) (not (holds (v.overwritten r) s)) (not_from_false (holds (v.taken r) s) (none (v.taken r) taken (holds (v.taken r) s) refl)) (not_from_false (holds (v.overwritten r) s) (none (v.overwritten r) over (holds (v.overwritten r) s) refl))

pub stored_store : (net : Network) (v : World) → Sound net v → (r : ℕ) (s : Sample) → holds (v.received r) s ≡ false → stored (store v r s) r ≡ stored v r ++ s ∷ []
stored_store net v sound r s apart = stored_more v r s (sound.taken_in r) (sound.over r) apart

-- a sample that is taken leaves
pub stored_take : (net : Network) (v : World) → Sound net v → (r : ℕ) (s : Sample) → stored (after_take v r s) r ≡ filter (λ t. not (is_same t s)) (stored v r)
stored_take net v sound r s =
    filter_same (is_stored (after_take v r s) r) (λ t. is_stored v r t && not (is_same t s)) (v.received r)
    (λ t i. ap (λ ts. not (holds ts t) && not (holds (v.overwritten r) t)) (put_at v.taken r (v.taken r ++ s ∷ []))
    ∙ (ap (λ b. not b && not (holds (v.overwritten r) t)) (holds_append (v.taken r) (s ∷ []) t)
    ∙ table (holds (v.taken r) t) (is_same t s) (holds (v.overwritten r) t)))
    ∙ sym (filter_both (λ t. not (is_same t s)) (is_stored v r) (v.received r))
  where
    table : (a b c : Bool) → (not (a || (b || false)) && not c) ≡ ((not a && not c) && not b)
    table true b c = refl
    table false true true = refl
    table false true false = refl
    table false false true = refl
    table false false false = refl

-- a sample that is overwritten leaves
pub stored_over : (v : World) (r : ℕ) (old : Sample) → stored (record v { overwritten = put v.overwritten r (v.overwritten r ++ old ∷ []) }) r ≡ filter (λ t. not (is_same t old)) (stored v r)
stored_over v r old =
    filter_same (is_stored (record v { overwritten = put v.overwritten r (v.overwritten r ++ old ∷ []) }) r) (λ t. is_stored v r t && not (is_same t old)) (v.received r)
    (λ t i. ap (λ ts. not (holds (v.taken r) t) && not (holds ts t)) (put_at v.overwritten r (v.overwritten r ++ old ∷ []))
    ∙ (ap (λ b. not (holds (v.taken r) t) && not b) (holds_append (v.overwritten r) (old ∷ []) t)
    ∙ table (holds (v.taken r) t) (is_same t old) (holds (v.overwritten r) t)))
    ∙ sym (filter_both (λ t. not (is_same t old)) (is_stored v r) (v.received r))
  where
    table : (a b c : Bool) → (not a && not (c || (b || false))) ≡ ((not a && not c) && not b)
    table true b c = refl
    table false true true = refl
    table false true false = refl
    table false false true = refl
    table false false false = refl
