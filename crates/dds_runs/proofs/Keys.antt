-- How many keys a set of keys has: the numbers below a bound that are among them.
use Rattle.std.proofs.Common.{◌≡◌, ℕ, ◌+◌, ◌<◌, Bool, true, false, cond, ◌||◌, ◌==◌, eqb, List, [], ◌∷◌, refl, sym, ap, subst, ◌∙◌, arith, inl, inr}
use Rattle.std.specs.List.{list_any}
use Rattle.std.specs.Ordering.{nat_cmp}
use Rattle.std.specs.Cmp.{nat_cmp_total}
use Rattle.std.specs.FinSet as set
use Rattle.std.specs.FinSet.{len-empty, len-insert, contains-from_list_nat}
use Rattle.std.proofs.lemmas.Bool.{cases_eq, eq-eqb, ne_eqb, or_left, or_right}
use Rattle.dds_base.specs.Sums.{total, bit}
use Rattle.dds_base.proofs.SumLaws.{total_zero, total_ext, total_add, total_one}

-- the key is in the list
abbrev pub is_among : List ℕ → ℕ → Bool
is_among ks k = list_any (λ y. y == k) ks

-- a new key is one more, a known one is none
one_more : (ks : List ℕ) (k n : ℕ) → k < n → (t : Bool) → is_among ks k ≡ t → total n (λ q. bit (is_among (k ∷ ks) q)) ≡ cond t (total n (λ q. bit (is_among ks q))) (total n (λ q. bit (is_among ks q)) + 1)
one_more ks k n within true e = total_ext (λ q. bit (is_among (k ∷ ks) q)) (λ q. bit (is_among ks q)) n (λ q b. elim (cases_eq k q) [
  | inl same ↦ subst (λ j. bit (eqb k j || is_among ks j) ≡ bit (is_among ks j)) same (rw (e, eq-eqb k k refl) refl)
  | inr ne ↦ rw (ne_eqb k q ne) refl
])
one_more ks k n within false e =
    total_ext (λ q. bit (is_among (k ∷ ks) q)) (λ q. bit (is_among ks q) + cond (eqb k q) 1 0) n (λ q b. elim (cases_eq k q) [
      | inl same ↦ subst (λ j. bit (eqb k j || is_among ks j) ≡ bit (is_among ks j) + cond (eqb k j) 1 0) same (rw (e, eq-eqb k k refl) refl)
      | inr ne ↦ rw (ne_eqb k q ne) (omega arith)
    ])
    ∙ total_add (λ q. bit (is_among ks q)) (λ q. cond (eqb k q) 1 0) n
    ∙ ap (λ x. total n (λ q. bit (is_among ks q)) + x) (total_one (λ q. cond (eqb k q) 1 0) n k within (λ q ne. rw (ne_eqb k q ne) refl) ∙ rw (eq-eqb k k refl) refl)

pub len_keys : (ks : List ℕ) (n : ℕ) → ((k : ℕ) → is_among ks k ≡ true → k < n) → set.len (set.from_list {R = nat_cmp} ks) ≡ total n (λ q. bit (is_among ks q))
len_keys [] n below = len-empty nat_cmp ∙ sym (total_zero (λ q. 0) n (λ q b. refl))
len_keys (k ∷ ks) n below =
    len-insert nat_cmp_total (set.from_list ks) k
    ∙ ap (λ b. cond b (set.len (set.from_list {R = nat_cmp} ks)) (set.len (set.from_list {R = nat_cmp} ks) + 1)) (contains-from_list_nat ks k)
    ∙ ap (λ x. cond (is_among ks k) x (x + 1)) (len_keys ks n (λ j h. below j (or_right (eqb k j) (is_among ks j) h)))
    ∙ sym (one_more ks k n (below k (or_left (eqb k k) (is_among ks k) (eq-eqb k k refl))) (is_among ks k) refl)
