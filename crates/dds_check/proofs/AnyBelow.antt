-- Whether one of several passes, as a loop finds it.
use Rattle.std.proofs.Common.{ℕ, Bool, true, false, ◌||◌, ◌&&◌, ◌≡◌, ◌+◌, ◌<◌, ◌≤◌, ◌∷◌, [], zero, suc, refl, sym, ap, ◌∙◌, ⊎_elim, filter, arith, add-one}
use Rattle.std.specs.List.{list_any, range_with_len}
use Rattle.std.proofs.lemmas.Bool.{cases_lt}
use Rattle.std.proofs.lemmas.List.Folds.{list_any-append}
use Rattle.dds_base.specs.Sums.{any_below}
use Rattle.dds_base.proofs.Bools.{or_true}
use Rattle.dds_base.proofs.Lists.{kept_push}
use Rattle.dds_match.specs.Network.{Network, matched_writers}

pub any_below_start : (f : ℕ → Bool) → any_below 0 f ≡ false
unfolding any_below
any_below_start f = refl

pub any_below_more : (f : ℕ → Bool) (i : ℕ) → any_below (i + 1) f ≡ (f i || any_below i f)
unfolding any_below
any_below_more f i = rw add-one

-- one passes
pub any_below_passes : (n : ℕ) (f : ℕ → Bool) (i : ℕ) → i < n → f i ≡ true → any_below n f ≡ true
unfolding any_below
any_below_passes zero f i l passes = absurd (omega arith)
any_below_passes (suc n) f i l passes =
    ⊎_elim
    (λ (before : i < n). let earlier = any_below_passes n f i before passes in rw earlier (or_true (f n)))
    (λ (at : n ≤ i). let same : i ≡ n = omega arith in let here : f n ≡ true = ap f (sym same) ∙ passes in rw here refl)
    (cases_lt i n)

-- one of those kept passes
kept_one : (p q : ℕ → Bool) (n : ℕ) (b : Bool) → p n ≡ b → list_any q (filter p (n ∷ [])) ≡ (b && q n)
kept_one p q n true e = rw e (or_none (q n))
  where
    or_none : (b : Bool) → (b || false) ≡ b
    or_none true = refl
    or_none false = refl
kept_one p q n false e = rw e refl

either_way : (a b : Bool) → (a || b) ≡ (b || a)
either_way true true = refl
either_way true false = refl
either_way false true = refl
either_way false false = refl

any_kept : (p q : ℕ → Bool) (n : ℕ) → list_any q (filter p (range_with_len 0 n)) ≡ any_below n (λ w. p w && q w)
unfolding any_below
any_kept p q zero = refl
any_kept p q (suc n) =
    let next : suc n ≡ n + 1 = omega arith in
    let earlier = any_kept p q n in
    let last = kept_one p q n (p n) refl in
    ap (λ m. list_any q (filter p (range_with_len 0 m))) next
    ∙ ap (list_any q) (kept_push p n)
    ∙ list_any-append q (filter p (range_with_len 0 n)) (filter p (n ∷ []))
    ∙ rw (earlier, last) (either_way (any_below n (λ w. p w && q w)) (p n && q n))

pub any_matched : (net : Network) (r : ℕ) (q : ℕ → Bool) → list_any q (matched_writers net r) ≡ any_below net.writers (λ w. net.matched w r && q w)
any_matched net r q = any_kept (λ w. net.matched w r) q net.writers

pub ruleset any_laws = (any_below_start, any_below_more, any_below_passes)
