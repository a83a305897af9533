-- What a dictionary and a sum say before and after a pivot.
use Rattle.std.proofs.Common.{◌≡◌, ◌<◌, ◌+ℤ◌, ◌*ℤ◌, ◌≤ℤ◌, ℕ, ℤ, zero, suc, pos, negsuc, List, [], ◌∷◌, ◌++◌, length, get_or, set, refl, sym, ap, subst, ◌∙◌, arith, inl, inr}
use Rattle.std.specs.List.{All}
use Rattle.std.proofs.Math.IntN.{zero-*ℤ, negsuc-*ℤ-pos}
use Rattle.std.proofs.lemmas.Int.{ints}
use Rattle.std.specs.List.Sorted.{IsPermutation}
use Rattle.std.proofs.lemmas.Bool.{cases_eq, ne_eqb, eq-eqb}
use Rattle.std.proofs.lemmas.List.{get_or-set_same, get_or-set_other, length-set}
use Rattle.std.proofs.lemmas.List.Elements.{All-push}
use Rattle.std.proofs.lemmas.List.Sorted.{All-permutation}
use Rattle.dds_simplex.specs.declared.dictionary.Basic.{Basic}
use Rattle.dds_simplex.specs.declared.dictionary.Dictionary.{Dictionary}
use Rattle.dds_simplex.specs.declared.dictionary.Variable.{Variable}
use Rattle.dds_simplex.specs.declared.dictionary.Variable.TheVariants.{Column}
use Rattle.dds_simplex.specs.declared.line.Line.{Line}
use Rattle.dds_simplex.specs.Line.{number_of}
use Rattle.dds_simplex.specs.Points.{IsAtMost, sum_over, IsBasicReplaced, IsReplaced, IsTurned, IsValue, KeepsPoints, free_values, with_value}
use Rattle.dds_simplex.proofs.Sums.{sum_same}

change_values : (n : ℕ) (first second : ℕ → ℤ) (scale : ℤ) (l : Line) (x : ℤ) → ((k : ℕ) → k < n → first k ≡ second k) → IsValue n first scale l x → IsValue n second scale l x
change_values n first second scale l x same h = h ∙ ap (λ z. l.constant *ℤ scale +ℤ z) (sum_same n (λ k. get_or l.numbers.items k (pos 0)) first second same)

values_before : (point : Variable → ℤ) (free : List Variable) (column : ℕ) (b : Variable) → column < length free → (k : ℕ) →
    free_values point free k ≡ with_value (free_values point (set free column b)) column (point (get_or free column (Column 0))) k
values_before point free column b there k = elim (cases_eq k column) [
  | inl e ↦ rw (eq-eqb k column e) (ap (λ j. point (get_or free j (Column 0))) e)
  | inr ne ↦ rw (ne_eqb k column ne) (ap point (sym (get_or-set_other free column k b (Column 0) ne)))
]

values_after : (point : Variable → ℤ) (free : List Variable) (column : ℕ) (b : Variable) → column < length free → (k : ℕ) →
    with_value (free_values point (set free column b)) column (point b) k ≡ free_values point (set free column b) k
values_after point free column b there k = elim (cases_eq k column) [
  | inl e ↦ rw (eq-eqb k column e) (ap point (sym (ap (λ j. get_or (set free column b) j (Column 0)) e ∙ get_or-set_same free column b (Column 0) there)))
  | inr ne ↦ rw (ne_eqb k column ne) refl
]

-- each line says its variable by the columns as they are after the pivot
lines_after : (n column : ℕ) (values : ℕ → ℤ) (point : Variable → ℤ) (scale e : ℤ) (turned : Line) (swapped replaced : List Basic) → column < n → length replaced ≡ length swapped →
    ((k : ℕ) (other : Basic) → k < length swapped → IsBasicReplaced column turned (get_or swapped k other) (get_or replaced k other)) → IsValue n values scale turned e →
    All (λ b. IsValue n (with_value values column e) scale b.line (point b.variable)) swapped → All (λ b. IsValue n values scale b.line (point b.variable)) replaced
lines_after n column values point scale e turned swapped replaced within len each of_turned all = λ k other h.
    let inside : k < length swapped = omega (arith, h, len) in
    let step = each k other inside in
    let new = step.1 n values scale e (point (get_or swapped k other).variable) within of_turned (all k other inside) in
    subst (λ x. IsValue n values scale (get_or replaced k other).line (point x)) (sym step.0) new

pub pivot_points : (column : ℕ) (old new : Dictionary) (given : Basic) (swapped replaced : List Basic) (turned sum new_sum : Line) → column < length old.free.items →
    IsPermutation old.basics.items (given ∷ swapped) → IsTurned column given.line turned → length replaced ≡ length swapped →
    ((k : ℕ) (other : Basic) → k < length swapped → IsBasicReplaced column turned (get_or swapped k other) (get_or replaced k other)) → IsReplaced column turned sum new_sum →
    new.free.items ≡ set old.free.items column given.variable → new.basics.items ≡ replaced ++ record { variable = get_or old.free.items column (Column 0); line = turned } ∷ [] →
    KeepsPoints old sum new new_sum
pivot_points column old new given swapped replaced turned sum new_sum there moved is_turned len each is_sum free basics = λ point scale value at sum_at.
    let old_free = old.free.items in
    let n = length old_free in
    let new_free = set old_free column given.variable in
    let e = point (get_or old_free column (Column 0)) in
    let values = free_values point new_free in
    let before : (k : ℕ) → k < n → free_values point old_free k ≡ with_value values column e k = λ k h. values_before point old_free column given.variable there k in
    let P = λ (b : Basic). IsValue n (with_value values column e) scale b.line (point b.variable) in
    let Q = λ (b : Basic). IsValue n values scale b.line (point b.variable) in
    let all : All P old.basics.items = λ k d h. change_values n (free_values point old_free) (with_value values column e) scale (get_or old.basics.items k d).line (point (get_or old.basics.items k d).variable) before (at k d h) in
    let here : All P (given ∷ swapped) = All-permutation P old.basics.items (given ∷ swapped) moved all in
    let of_given : P given = here 0 given (omega arith) in
    let others : All P swapped = λ k d h. here (suc k) d (omega (arith, h)) in
    let with_b : IsValue n (with_value values column (point given.variable)) scale turned e = is_turned n values scale e (point given.variable) there of_given in
    let of_turned : IsValue n values scale turned e = change_values n (with_value values column (point given.variable)) values scale turned e (λ k h. values_after point old_free column given.variable there k) with_b in
    let rest : All Q replaced = lines_after n column values point scale e turned swapped replaced there len each of_turned others in
    let last : Basic = record { variable = get_or old_free column (Column 0); line = turned } in
    let pushed : All Q (replaced ++ last ∷ []) = All-push Q replaced last rest of_turned in
    let sum_after : IsValue n values scale new_sum value = is_sum n values scale e value there of_turned (change_values n (free_values point old_free) (with_value values column e) scale sum value before sum_at) in
    let count : n ≡ length new.free.items = sym (ap length free ∙ length-set old_free column given.variable) in (
      subst (λ m. All (λ b. IsValue m (free_values point new.free.items) scale b.line (point b.variable)) new.basics.items) count
          (subst (λ fs. All (λ b. IsValue n (free_values point fs) scale b.line (point b.variable)) new.basics.items) (sym free) (subst (λ bs. All Q bs) (sym basics) pushed)),
      subst (λ m. IsValue m (free_values point new.free.items) scale new_sum value) count (subst (λ fs. IsValue n (free_values point fs) scale new_sum value) (sym free) sum_after),
    )

-- where nothing changes the points stay
pub keeps_same : (d : Dictionary) (sum : Line) → KeepsPoints d sum d sum
keeps_same d sum = λ point scale value at sum_at. (at, sum_at)

-- one change after the other
pub keeps_next : (first second third : Dictionary) (sum next last : Line) → KeepsPoints first sum second next → KeepsPoints second next third last → KeepsPoints first sum third last
keeps_next first second third sum next last one two = λ point scale value at sum_at. let there = one point scale value at sum_at in two point scale value there.0 there.1

not_above : (number value : ℤ) → number ≤ℤ pos 0 → pos 0 ≤ℤ value → (number *ℤ value) ≤ℤ pos 0
not_above (pos zero) value below above = omega (arith, ints, zero-*ℤ value)
not_above (pos (suc n)) value below above = absurd (omega (arith, ints, below))
not_above (negsuc n) (pos m) below above = omega (arith, ints, negsuc-*ℤ-pos n m)
not_above (negsuc n) (negsuc m) below above = absurd (omega (arith, ints, above))

sum_not_above : (n : ℕ) (numbers values : ℕ → ℤ) → ((k : ℕ) → k < n → numbers k ≤ℤ pos 0) → ((k : ℕ) → pos 0 ≤ℤ values k) → sum_over n numbers values ≤ℤ pos 0
sum_not_above zero numbers values below above = omega (arith, ints)
sum_not_above (suc n) numbers values below above =
    let here : n < suc n = omega arith in
    omega (arith, ints, sum_not_above n numbers values (λ k h. below k (omega (arith, h))) above, not_above (numbers n) (values n) (below n here) (above n))

-- where no free variable would raise the sum, its number alone is the most
pub at_most : (old new : Dictionary) (sum last : Line) → ((column : ℕ) → column < length new.free.items → number_of last column ≤ℤ pos 0) → KeepsPoints old sum new last → IsAtMost old sum last.constant last.den
at_most old new sum last greatest keeps = λ point scale value above at sum_at.
    let there = (keeps point scale value at sum_at).1 in
    omega (arith, ints, there, sum_not_above (length new.free.items) (number_of last) (free_values point new.free.items) greatest (λ k. above (get_or new.free.items k (Column 0))))
