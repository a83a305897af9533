-- A certificate that fits names a bound or a total at most once, so what is found first is the least.
use Rattle.std.proofs.Common.{ℕ, zero, suc, inl, inr, ◌≡◌, ◌≤◌, ◌&&◌, ◌||◌, ◌==◌, Bool, true, false, cond, not, List, [], ◌∷◌, map, length, slice_get, Option, Some, None, IfSome, refl, sym, ap, ◌∙◌, arith}
use Rattle.std.specs.List.{list_any, list_all}
use Rattle.std.proofs.lemmas.Bool.{eq-eqb, eqb-true, both_ways}
use Rattle.std.proofs.lemmas.Option.{none-some, same_Some}
use Rattle.dds_base.proofs.Bools.{or_true}
use Rattle.dds_base.specs.Sums.{In}
use Rattle.dds_match.specs.Network.{Network}
use Rattle.dds_weights.specs.Lists as lists
use Rattle.dds_weights.specs.declared.certificate.Bound.{Bound as BoundEntry}
use Rattle.dds_weights.specs.declared.certificate.Total.{Total as TotalEntry}
use Rattle.dds_weights.specs.Fits.{is_distinct, same_bound_place, rows_fit, bounds_fit, totals_fit, fits}
use Rattle.dds_runs.specs.Accepted.{Bound, Total, bound_with, total_with}
use Rattle.dds_check.specs.Checked.{IsLeastBound, IsLeastTotal}
use Rattle.dds_check.specs.Tables.{bound_of, total_of}
use Rattle.dds_check.proofs.FirstLemmas.{both_first, both_second}
use Rattle.dds_check.proofs.Holds.{bound_found, total_found}
use Rattle.dds_check.proofs.Mapped.{mapped_from}

any_by : {X : Type 0} (f : X → Bool) (xs : List X) (i : ℕ) (x : X) → slice_get xs i ≡ Some x → f x ≡ true → list_any f xs ≡ true
any_by f [] i x h e = absurd (none-some x h)
any_by {X} f (y ∷ ys) zero x h e = let same : y ≡ x = head y x h in rw same (rw e refl)
  where
    head : (y x : X) → Some y ≡ Some x → y ≡ x
    head y x h = cc
any_by f (y ∷ ys) (suc i) x h e = ap (λ b. f y || b) (any_by f ys i x h e) ∙ or_true (f y)

never : (b : Bool) → not b ≡ true → b ≡ true → ⊥
never true h e = absurd (grind arith)
never false h e = absurd (grind arith)

both_of : (x y : Bool) → x ≡ true → y ≡ true → (x && y) ≡ true
both_of true y h e = e
both_of false y h e = h

same_place : (m j r k : ℕ) → m ≡ r → j ≡ k → ((m == r) && (j == k)) ≡ true
same_place m j r k h e = both_of (m == r) (j == k) (eq-eqb m r h) (eq-eqb j k e)

-- another entry for the place of the first one is not in the rest
no_other : (x : BoundEntry) (xs : List BoundEntry) (rows : List lists.Row) (b : Bound) → not (list_any (same_bound_place x) xs) ≡ true → In b (map (bound_with rows) xs) → b.reader ≡ x.reader → b.key ≡ x.key → ⊥
no_other x xs rows b once i reader key =
    let from = mapped_from (bound_with rows) b xs i in
    let y = from.1 in
    never (list_any (same_bound_place x) xs) once
    (any_by (same_bound_place x) xs from.0 y from.2 (same_place y.reader y.key x.reader x.key (ap (λ (z : Bound). z.reader) from.3 ∙ reader) (ap (λ (z : Bound). z.key) from.3 ∙ key)))

from_test : (m j r k : ℕ) → ((m == r) && (j == k)) ≡ true → (m ≡ r) × (j ≡ k)
from_test m j r k h = (eqb-true m r (both_first (m == r) (j == k) h), eqb-true j k (both_second (m == r) (j == k) h))

only_bound : (bs : List BoundEntry) (rows : List lists.Row) (r k n : ℕ) (b : Bound) → is_distinct same_bound_place bs ≡ true → bound_of bs r k ≡ Some n → In b (map (bound_with rows) bs) → b.reader ≡ r → b.key ≡ k → b.bound ≡ n
only_bound [] rows r k n b once h i reader key = absurd (none-some n h)
only_bound (x ∷ xs) rows r k n b once h i reader key =
    go (λ others found later. only_bound xs rows r k n b others found later reader key) ((x.reader == r) && (x.key == k)) refl h i
  where
    first : not (list_any (same_bound_place x) xs) ≡ true
    first = both_first (not (list_any (same_bound_place x) xs)) (is_distinct same_bound_place xs) once

    rest : is_distinct same_bound_place xs ≡ true
    rest = both_second (not (list_any (same_bound_place x) xs)) (is_distinct same_bound_place xs) once

    go : (is_distinct same_bound_place xs ≡ true → bound_of xs r k ≡ Some n → In b (map (bound_with rows) xs) → b.bound ≡ n) → (t : Bool) → ((x.reader == r) && (x.key == k)) ≡ t → cond t (Some x.bound) (bound_of xs r k) ≡ Some n → In b (map (bound_with rows) (x ∷ xs)) → b.bound ≡ n
    go more true e h (inl same) = ap (λ (z : Bound). z.bound) (sym same) ∙ same_Some x.bound n h
    go more true e h (inr later) = (let at = from_test x.reader x.key r k e in absurd (no_other x xs rows b first later (reader ∙ sym at.0) (key ∙ sym at.1)))
    go more false e h (inl same) = absurd (both_ways ((x.reader == r) && (x.key == k)) e (same_place x.reader x.key r k (ap (λ (z : Bound). z.reader) same ∙ reader) (ap (λ (z : Bound). z.key) same ∙ key)))
    go more false e h (inr later) = more rest h later

no_other_total : (x : TotalEntry) (xs : List TotalEntry) (rows : List lists.Row) (t : Total) → not (list_any (λ (y : TotalEntry). y.reader == x.reader) xs) ≡ true → In t (map (total_with rows) xs) → t.reader ≡ x.reader → ⊥
no_other_total x xs rows t once i reader =
    let from = mapped_from (total_with rows) t xs i in
    let y = from.1 in
    never (list_any (λ (z : TotalEntry). z.reader == x.reader) xs) once
    (any_by (λ (z : TotalEntry). z.reader == x.reader) xs from.0 y from.2 (eq-eqb y.reader x.reader (ap (λ (z : Total). z.reader) from.3 ∙ reader)))

only_total : (ts : List TotalEntry) (rows : List lists.Row) (r n : ℕ) (t : Total) → is_distinct (λ (x y : TotalEntry). y.reader == x.reader) ts ≡ true → total_of ts r ≡ Some n → In t (map (total_with rows) ts) → t.reader ≡ r → t.bound ≡ n
only_total [] rows r n t once h i reader = absurd (none-some n h)
only_total (x ∷ xs) rows r n t once h i reader =
    go (λ others found later. only_total xs rows r n t others found later reader) (x.reader == r) refl h i
  where
    first : not (list_any (λ (y : TotalEntry). y.reader == x.reader) xs) ≡ true
    first = both_first (not (list_any (λ (y : TotalEntry). y.reader == x.reader) xs)) (is_distinct (λ (x y : TotalEntry). y.reader == x.reader) xs) once

    rest : is_distinct (λ (x y : TotalEntry). y.reader == x.reader) xs ≡ true
    rest = both_second (not (list_any (λ (y : TotalEntry). y.reader == x.reader) xs)) (is_distinct (λ (x y : TotalEntry). y.reader == x.reader) xs) once

    go : (is_distinct (λ (x y : TotalEntry). y.reader == x.reader) xs ≡ true → total_of xs r ≡ Some n → In t (map (total_with rows) xs) → t.bound ≡ n) → (b : Bool) → (x.reader == r) ≡ b → cond b (Some x.bound) (total_of xs r) ≡ Some n → In t (map (total_with rows) (x ∷ xs)) → t.bound ≡ n
    go more true e h (inl same) = ap (λ (z : Total). z.bound) (sym same) ∙ same_Some x.bound n h
    go more true e h (inr later) = absurd (no_other_total x xs rows t first later (reader ∙ sym (eqb-true x.reader r e)))
    go more false e h (inl same) = absurd (both_ways (x.reader == r) e (eq-eqb x.reader r (ap (λ (z : Total). z.reader) same ∙ reader)))
    go more false e h (inr later) = more rest h later

bounds_once : (net : Network) (cert : lists.Certificate) → fits net cert ≡ true → is_distinct same_bound_place cert.bounds ≡ true
unfolding fits
bounds_once net cert h =
    let n = length cert.rows in
    both_second (list_all _ cert.bounds) (is_distinct same_bound_place cert.bounds)
    (both_first (bounds_fit net n cert.bounds) (totals_fit net n cert.totals) (both_second (rows_fit net cert.rows) (bounds_fit net n cert.bounds && totals_fit net n cert.totals) h))

totals_once : (net : Network) (cert : lists.Certificate) → fits net cert ≡ true → is_distinct (λ (x y : TotalEntry). y.reader == x.reader) cert.totals ≡ true
unfolding fits
totals_once net cert h =
    let n = length cert.rows in
    both_second (list_all _ cert.totals) (is_distinct (λ (x y : TotalEntry). y.reader == x.reader) cert.totals)
    (both_second (bounds_fit net n cert.bounds) (totals_fit net n cert.totals) (both_second (rows_fit net cert.rows) (bounds_fit net n cert.bounds && totals_fit net n cert.totals) h))

at_most : (m n : ℕ) → m ≡ n → n ≤ m
at_most m n same = omega arith

pub least_bound : (net : Network) (cert : lists.Certificate) (r k : ℕ) (o : Option ℕ) → fits net cert ≡ true → o ≡ bound_of cert.bounds r k → IfSome o (IsLeastBound cert r k)
least_bound net cert r k None h e = tt
least_bound net cert r k (Some n) h e = record {
  given = bound_found cert.rows cert.bounds r k n (sym e);
  least = λ m b. at_most m n (sym b.4 ∙ only_bound cert.bounds cert.rows r k n b.0 (bounds_once net cert h) (sym e) b.1 b.2 b.3);
}

pub least_total : (net : Network) (cert : lists.Certificate) (r : ℕ) (o : Option ℕ) → fits net cert ≡ true → o ≡ total_of cert.totals r → IfSome o (IsLeastTotal cert r)
least_total net cert r None h e = tt
least_total net cert r (Some n) h e = record {
  given = total_found cert.rows cert.totals r n (sym e);
  least = λ m t. at_most m n (sym t.3 ∙ only_total cert.totals cert.rows r n t.0 (totals_once net cert h) (sym e) t.1 t.2);
}
