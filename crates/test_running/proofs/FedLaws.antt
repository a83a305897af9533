-- The greatest number of each writer that a cache stored stays above all stored ones of it.
use Rattle.std.proofs.Common.{◌≡◌, ℕ, suc, ◌<◌, ◌≤◌, ◌||◌, ◌==◌, cond, List, [], ◌∷◌, length, get_or, set, Option, None, Some, MatchOption, refl, ap, arith, inl, inr}
use Rattle.std.specs.List.{All, remove, position_or_len}
use Rattle.std.proofs.lemmas.Bool.{cases_eq}
use Rattle.std.proofs.lemmas.List.{get_or-set_same, get_or-set_other}
use Rattle.std.proofs.lemmas.List.Elements.{All-weaker, All-push, All-append, All-take, All-drop}
use Rattle.dds_base.specs.declared.sample.Sample.{Sample}
use Rattle.dds_qos.specs.declared.admission.Admit.{Admit}
use Rattle.dds_qos.specs.declared.admission.Admit.TheVariants.{Stored, Overwrote, Rejected}
use Rattle.dds_qos.specs.Admission.{stored_after, is_rejected}
use Rattle.dds_qos.specs.Samples.{is_same, first_of, without}
use Rattle.dds_cache.specs.declared.released.Released.{Released}
use Rattle.dds_cache.specs.Released.{is_listed, raised}

-- no stored number is above the greatest one of its writer
abbrev pub AreBelow : List ℕ → List Sample → Type 0
AreBelow last st = All (λ s. s.sn ≤ get_or last s.writer 0) st

-- what stays of a list stood in it
pub All-remove : (P : Sample → Type 0) (xs : List Sample) (n : ℕ) → All P xs → All P (remove xs n)
All-remove P xs n h = All-append P _ _ (All-take P n xs h) (All-drop P (suc n) xs h)

-- a release leaves the writers listed
pub listed_raised : (v w u : ℕ) (ws : List Released) → is_listed v (raised w u ws) ≡ is_listed v ws
listed_raised v w u [] = refl
listed_raised v w u (r ∷ ws) = ap (λ b. (r.writer == v) || b) (listed_raised v w u ws)

-- a writer's greatest number grows, and no other falls
grown : (last : List ℕ) (w n v : ℕ) → w < length last → get_or last w 0 ≤ n → get_or last v 0 ≤ get_or (set last w n) v 0
grown last w n v within le = elim (cases_eq v w) [
  | inl e ↦ rw (e, get_or-set_same last w n 0 within) le
  | inr ne ↦ rw (get_or-set_other last w v n 0 ne) (omega arith)
]

-- after an admission of a sample of the writer w with a greater number n
pub below_after : (a : Admit) (last : List ℕ) (st : List Sample) (x : Sample) (w n : ℕ) → AreBelow last st → w < length last → get_or last w 0 < n → x.writer ≡ w → x.sn ≡ n
    → AreBelow (set last w (cond (is_rejected a) (get_or last w 0) n)) (stored_after a st x)
below_after a last st x w n below within lt of_w is_n = go a
  where
    wider : (m : ℕ) → get_or last w 0 ≤ m → AreBelow (set last w m) st
    wider m le =
        All-weaker (λ s. s.sn ≤ get_or last s.writer 0) (λ s. s.sn ≤ get_or (set last w m) s.writer 0)
        (λ s h. let more : get_or last s.writer 0 ≤ get_or (set last w m) s.writer 0 = grown last w m s.writer within le in omega (arith, h)) st below

    new : x.sn ≤ get_or (set last w n) x.writer 0
    new = rw (of_w, get_or-set_same last w n 0 within) (omega arith)

    later : AreBelow (set last w n) st
    later = wider n (omega (arith, lt))

    go : (a : Admit) → AreBelow (set last w (cond (is_rejected a) (get_or last w 0) n)) (stored_after a st x)
    go Stored = All-push (λ s. s.sn ≤ get_or (set last w n) s.writer 0) st x later new
    go (Overwrote old) =
        All-push (λ s. s.sn ≤ get_or (set last w n) s.writer 0) (remove st (first_of x.key st)) x (All-remove (λ s. s.sn ≤ get_or (set last w n) s.writer 0) st (first_of x.key st) later) new
    go (Rejected why) = wider (get_or last w 0) (omega arith)

-- after a take
pub below_taken : (last : List ℕ) (st st' : List Sample) (o : Option Sample) → AreBelow last st → MatchOption o (st' ≡ st) (λ x. st' ≡ without x st) → AreBelow last st'
below_taken last st st' None below e = rw e below
below_taken last st st' (Some x) below e = rw e (All-remove (λ s. s.sn ≤ get_or last s.writer 0) st (position_or_len (is_same x) st) below)
