-- Lines that are mixed.
use Rattle.std.proofs.Common.{◌≡◌, ◌<ℤ◌, ◌+ℤ◌, ◌*ℤ◌, ℕ, ℤ, pos, Option, None, Some, IfSome, Result, Ok, Err, OnOk, subst, sym, ◌∙◌}
use Rattle.dds_simplex.specs.declared.line.Line.{Line}
use Rattle.dds_simplex.specs.Line.{IsLineWithout, IsMixed, IsPairWithout, IsTimesMore, number_of}
use Rattle.dds_simplex.proofs.Fractions.{fraction_more, above_zero, product_above_zero}

-- what holds where there is a value
pub if_some : {A P Q : Type 0} (o : Option A) → (P → Q) → IfSome o (λ _. P) → IfSome o (λ _. Q)
if_some None f h = h
if_some (Some a) f h = f h

-- a factor that each number of a mixed line has may go
pub mixed_from : (own part den : ℤ) (old other mid new : Line) → mid.den ≡ den → mid.constant ≡ old.constant *ℤ own +ℤ other.constant *ℤ part →
    ((column : ℕ) → number_of mid column ≡ number_of old column *ℤ own +ℤ number_of other column *ℤ part) → IsLineWithout mid new → IsMixed own old part other den new
mixed_from own part den old other mid new is_den is_constant each (factor, p, d, k, numbers) =
    (factor, p, d ∙ is_den, k ∙ is_constant, λ column. numbers column ∙ each column)

-- a line that is mixed over the least common denominator is a sum
pub sum_from_mixed : (times mine own : ℤ) (old other new : Line) → IsPairWithout old.den other.den mine own → IsMixed own old (times *ℤ mine) other (old.den *ℤ own) new → IsTimesMore times other old new
sum_from_mixed times mine own old other new (factor, p, a, b) (rest, q, d, k, numbers) = (
  fraction_more times old.den old.constant other.den other.constant new.den new.constant mine own factor rest q a b d k,
  λ column. fraction_more times old.den (number_of old column) other.den (number_of other column) new.den (number_of new column) mine own factor rest q a b d (numbers column),
)

-- its denominator is above 0 where both were
pub den_from_mixed : (times mine own : ℤ) (old other new : Line) → IsPairWithout old.den other.den mine own → pos 0 <ℤ old.den → pos 0 <ℤ other.den → IsMixed own old (times *ℤ mine) other (old.den *ℤ own) new → pos 0 <ℤ new.den
den_from_mixed times mine own old other new (factor, p, a, b) old_above other_above (rest, q, d, k, numbers) =
    let own_above : pos 0 <ℤ own = above_zero own factor (subst (λ z. pos 0 <ℤ z) (sym b) other_above) in
    above_zero new.den rest (subst (λ z. pos 0 <ℤ z) (sym d) (product_above_zero old.den own old_above own_above))

-- what holds of a value that is there
pub from_some : {A P : Type 0} (o : Option A) (a : A) → o ≡ Some a → IfSome o (λ _. P) → P
from_some {P = P} o a e h = subst (λ x. IfSome x (λ _. P)) e h

-- what holds where a call succeeds
pub on_ok : {A E P Q : Type 0} (r : Result A E) → (P → Q) → OnOk r P → OnOk r Q
on_ok (Ok a) f h = f h
on_ok (Err e) f h = h

-- what holds whether a call succeeds or not
pub anyway : {A E P : Type 0} (r : Result A E) → P → OnOk r P
anyway (Ok a) h = h
anyway (Err e) h = tt
