-- The weighted sum of a row along the steps that change counts.
use Rattle.std.proofs.Common.{◌≡◌, inl, inr, ℕ, ◌+◌, ◌*◌, ◌<◌, cond, eqb, ◌&&◌, List, [], ◌∷◌, refl, sym, ap, ◌∙◌, arith}
use Rattle.std.proofs.lemmas.Bool.{eq-eqb, ne_eqb, cond_both, and_left, and_right, and_from}
use Rattle.dds_base.specs.Sums.{total, total_pairs, In}
use Rattle.dds_base.specs.declared.portion.Portion.{Portion}
use Rattle.dds_match.specs.Network.{named, weighed}
use Rattle.dds_base.proofs.SumLaws.{total_balance, total_ext, total_zero, total_one}

-- 1 at the pair (i, k), else 0
abbrev pub at_pair : ℕ → ℕ → ℕ → ℕ → ℕ
at_pair i k j l = cond (eqb i j && eqb k l) 1 0

-- a sum over pairs with one place that is not 0
pub pairs_one : (n m : ℕ) (f : ℕ → ℕ → ℕ) (i k : ℕ) → i < n → k < m → total_pairs n m (λ j l. f j l * at_pair i k j l) ≡ f i k
pairs_one n m f i k bi bk =
    total_one (λ j. total m (λ l. f j l * at_pair i k j l)) n i bi (λ j ne. total_zero (λ l. f j l * at_pair i k j l) m (λ l b. rw (and_left (eqb i j) (eqb k l) (ne_eqb i j ne)) (omega arith)))
    ∙ (total_one (λ l. f i l * at_pair i k i l) m k bk (λ l ne. rw (and_right (eqb i i) (eqb k l) (ne_eqb k l ne)) (omega arith))
    ∙ (rw (and_from (eqb i i) (eqb k k) (eq-eqb i i refl) (eq-eqb k k refl)) (omega arith)))

-- sums over pairs agree where the terms do
pub pairs_balance : (n m : ℕ) (f g h l : ℕ → ℕ → ℕ) → ((i k : ℕ) → i < n → k < m → f i k + g i k ≡ h i k + l i k) → total_pairs n m f + total_pairs n m g ≡ total_pairs n m h + total_pairs n m l
pairs_balance n m f g h l e = total_balance (λ i. total m (f i)) (λ i. total m (g i)) (λ i. total m (h i)) (λ i. total m (l i)) n (λ i b. total_balance (f i) (g i) (h i) (l i) m (λ k c. e i k b c))

pub pairs_ext : (n m : ℕ) (f g : ℕ → ℕ → ℕ) → ((i k : ℕ) → i < n → k < m → f i k ≡ g i k) → total_pairs n m f ≡ total_pairs n m g
pairs_ext n m f g e = total_ext (λ i. total m (f i)) (λ i. total m (g i)) n (λ i b. total_ext (f i) (g i) m (λ k c. e i k b c))

-- weights times counts, where new + minus is old + plus at each place
pub weigh_balance : (n m : ℕ) (c new old plus minus : ℕ → ℕ → ℕ) → ((i k : ℕ) → i < n → k < m → new i k + minus i k ≡ old i k + plus i k)
    → total_pairs n m (λ i k. c i k * new i k) + total_pairs n m (λ i k. c i k * minus i k) ≡ total_pairs n m (λ i k. c i k * old i k) + total_pairs n m (λ i k. c i k * plus i k)
weigh_balance n m c new old plus minus e = pairs_balance n m (λ i k. c i k * new i k) (λ i k. c i k * minus i k) (λ i k. c i k * old i k) (λ i k. c i k * plus i k)
    (λ i k bi bk. let at = ap (λ x. c i k * x) (e i k bi bk) in omega arith)

-- the sum over a rule's list is the sum over all pairs of its counts
pub weighed_is : (n m : ℕ) (es : List (Portion ℕ)) (c : ℕ → ℕ → ℕ) → ((e : Portion ℕ) → In e es → (e.endpoint < n) × (e.key < m)) → weighed es c ≡ total_pairs n m (λ i k. c i k * named es i k)
weighed_is n m [] c known = sym (total_zero (λ i. total m (λ k. c i k * 0)) n (λ i b. total_zero (λ k. c i k * 0) m (λ k d. omega arith)))
weighed_is n m (e ∷ es) c known =
    let rest = weighed_is n m es c (λ x i. known x (inr i)) in
    let here = known e (inl refl) in
    let one = pairs_one n m (λ i k. e.count * c i k) e.endpoint e.key here.0 here.1 in
    let both = pairs_balance n m (λ i k. c i k * named (e ∷ es) i k) (λ i k. 0) (λ i k. (e.count * c i k) * at_pair e.endpoint e.key i k) (λ i k. c i k * named es i k)
    (λ i k bi bk. cond_both (eqb e.endpoint i && eqb e.key k) e.count 0 (λ x. c i k * (x + named es i k) + 0 ≡ (e.count * c i k) * at_pair e.endpoint e.key i k + c i k * named es i k)
    (λ yes. rw yes (omega arith)) (λ no. rw no (omega arith))) in
    let none = total_zero (λ i. total m (λ k. 0)) n (λ i b. total_zero (λ k. 0) m (λ k d. refl)) in
    omega arith
