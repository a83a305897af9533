-- What rules ever permit, portion by portion and rule by rule.
use Rattle.std.proofs.Common.{◌≡◌, ℕ, suc, ◌+◌, ◌*◌, ◌<◌, ◌≤◌, Bool, true, false, cond, ◌&&◌, ◌||◌, not, List, ◌∷◌, drop, drop-cons, length, get_or, set, get_or-set_other, get_or-set_same, option_map, replicate, Option, Some, None, inl, inr, refl, sym, ◌∙◌, ap, arith}
use Rattle.std.specs.Prelude.{◌==◌, IfSome}
use Rattle.std.proofs.lemmas.Bool.{cases_eq, cases_lt, eq-eqb, eqb-true, false_from_ne_true}
use Rattle.std.proofs.lemmas.List.{get_or-replicate, get_or_past, length-replicate}
use Rattle.std.proofs.lemmas.Option.{none-some}
use Rattle.dds_base.proofs.Bools.{and_false}
use Rattle.dds_base.specs.Sums.{any_below, total}
use Rattle.dds_base.specs.declared.portion.Portion.{Portion}
use Rattle.dds_match.specs.Network.{is_named, named}
use Rattle.dds_runs.proofs.Sums.{total_more, total_start}
use Rattle.dds_check.specs.Permits.{AreAtMost}
use Rattle.dds_check.proofs.AnyBelow.{any_below_more, any_below_start}

-- what is ever permitted with these portions, of a rule that takes something or nothing
abbrev pub with_portions : Bool → ℕ → List (Portion ℕ) → ℕ → ℕ → Option ℕ → Option ℕ
with_portions takes start es w k o = cond (takes && is_named es w k) None (option_map (λ n. n + named es w k * start) o)

-- and with one
abbrev pub with_one : Bool → ℕ → ℕ → Option ℕ → Option ℕ
with_one takes start count o = cond takes None (option_map (λ n. n + count * start) o)

nothing_more : (b : Bool) (f : ℕ → ℕ) → None ≡ cond b None (option_map f None)
nothing_more true f = refl
nothing_more false f = refl

portion_here : (takes : Bool) (start w k : ℕ) (e : Portion ℕ) (es : List (Portion ℕ)) (o : Option ℕ) → (e.endpoint == w) ≡ true → (e.key == k) ≡ true
    → with_portions takes start es w k (with_one takes start e.count o) ≡ with_portions takes start (e ∷ es) w k o
portion_here true start w k e es o at of = rw (at, of) (sym (nothing_more (is_named es w k) (λ n. n + named es w k * start)))
portion_here false start w k e es None at of = refl
portion_here false start w k e es (Some n) at of = rw (at, of) (ap Some (grind arith))

zero_more : (n : ℕ) → 0 + n ≡ n
zero_more n = omega arith

portion_elsewhere : (takes : Bool) (start w k : ℕ) (e : Portion ℕ) (es : List (Portion ℕ)) (o : Option ℕ) (a b : Bool) → (e.endpoint == w) ≡ a → (e.key == k) ≡ b → (a && b) ≡ false
    → with_portions takes start es w k o ≡ with_portions takes start (e ∷ es) w k o
portion_elsewhere takes start w k e es o true true at of other = absurd cc
portion_elsewhere takes start w k e es o true false at of other = rw (at, of, zero_more (named es w k)) refl
portion_elsewhere takes start w k e es o false b at of other = rw (at, zero_more (named es w k)) refl

-- the first of the portions that are left
pub portion_next : (xs : List (Portion ℕ)) (i : ℕ) (e : Portion ℕ) → i < length xs → e ≡ get_or xs i e → drop i xs ≡ e ∷ drop (i + 1) xs
portion_next xs i e within is =
    let next : suc i ≡ i + 1 = omega arith in
    drop-cons xs i e within ∙ ap (λ x. x ∷ drop (suc i) xs) (sym is) ∙ ap (λ n. e ∷ drop n xs) next

-- a cell that gets what a portion permits, and one that gets nothing
pub portion_added : (takes : Bool) (start w n k : ℕ) (e : Portion ℕ) (es : List (Portion ℕ)) (old new : List (Option ℕ)) (v : Option ℕ) → (e.endpoint == w) ≡ true → n ≡ e.key → n < length old
    → new ≡ set old n v → v ≡ with_one takes start e.count (get_or old n None)
    → with_portions takes start es w k (get_or new k None) ≡ with_portions takes start (e ∷ es) w k (get_or old k None)
portion_added takes start w n k e es old new v at number within put added = elim (cases_eq n k) [
  | inl same ↦ (
      let of : (e.key == k) ≡ true = eq-eqb e.key k (sym number ∙ same) in
      let cell : get_or new k None ≡ v = ap (λ xs. get_or xs k None) put ∙ ap (λ i. get_or (set old n v) i None) (sym same) ∙ get_or-set_same old n v None within in
      let before : get_or old n None ≡ get_or old k None = ap (λ i. get_or old i None) same in
      ap (with_portions takes start es w k) (cell ∙ added ∙ ap (with_one takes start e.count) before) ∙ portion_here takes start w k e es (get_or old k None) at of)
  | inr other ↦ (
      let off : (e.key == k) ≡ false = false_from_ne_true (e.key == k) (λ h. other (number ∙ eqb-true e.key k h)) in
      ap (with_portions takes start es w k) (ap (λ xs. get_or xs k None) put ∙ get_or-set_other old n k v None (λ h. other (sym h))) ∙ portion_elsewhere takes start w k e es (get_or old k None) true false at off refl)
]

pub portion_passed : (takes : Bool) (start w k : ℕ) (e : Portion ℕ) (es : List (Portion ℕ)) (old new : List (Option ℕ)) → new ≡ old → ((e.endpoint == w) && (e.key == k)) ≡ false
    → with_portions takes start es w k (get_or new k None) ≡ with_portions takes start (e ∷ es) w k (get_or old k None)
portion_passed takes start w k e es old new same other =
    ap (λ xs. with_portions takes start es w k (get_or xs k None)) same ∙ portion_elsewhere takes start w k e es (get_or old k None) (e.endpoint == w) (e.key == k) refl refl other

pub other_endpoint : (a b : Bool) → a ≡ false → (a && b) ≡ false
other_endpoint a b off = rw off refl

pub past_key : (a : Bool) (i k : ℕ) → 64 ≤ i → k < 64 → (a && (i == k)) ≡ false
past_key a i k past below =
    let off : (i == k) ≡ false = false_from_ne_true (i == k) (λ h. (let same = eqb-true i k h in omega arith)) in
    rw off (and_false a)

pub flipped : (b : Bool) (o : Option ℕ) → cond b o None ≡ cond (not b) None o
flipped true o = refl
flipped false o = refl

-- ── how great the numbers get
if_some : (o : Option ℕ) (q : ℕ) → ((n : ℕ) → o ≡ Some n → n ≤ q) → IfSome o (λ n. n ≤ q)
if_some None q within = tt
if_some (Some n) q within = within n refl

some_within : (o : Option ℕ) (q n : ℕ) → IfSome o (λ n. n ≤ q) → o ≡ Some n → n ≤ q
some_within None q n few there = absurd (none-some n there)
some_within (Some m) q n few there = let e : m ≡ n = cc in omega (arith, few)

pub within_some : (cells : List (Option ℕ)) (k m q : ℕ) → m ≤ q → AreAtMost m cells → IfSome (get_or cells k None) (λ n. n ≤ q)
within_some cells k m q le most = if_some (get_or cells k None) q (λ n there. (let before = most k n there in omega arith))

pub most_more : (old new : List (Option ℕ)) (i m q : ℕ) (v : Option ℕ) → i < length old → new ≡ set old i v → IfSome v (λ n. n ≤ q) → m ≤ q → AreAtMost m old → AreAtMost q new
most_more old new i m q v within put few le most k n there = elim (cases_eq i k) [
  | inl same ↦ some_within v q n few (sym (get_or-set_same old i v None within) ∙ ap (λ j. get_or (set old i v) j None) same ∙ sym (ap (λ xs. get_or xs k None) put) ∙ there)
  | inr other ↦ (let before = most k n (sym (get_or-set_other old i k v None (λ h. other (sym h))) ∙ sym (ap (λ xs. get_or xs k None) put) ∙ there) in omega arith)
]

pub most_weaker : (old new : List (Option ℕ)) (m q : ℕ) → new ≡ old → m ≤ q → AreAtMost m old → AreAtMost q new
most_weaker old new m q same le most k n there = let before = most k n (sym (ap (λ xs. get_or xs k None) same) ∙ there) in omega arith

-- ── rule by rule
joined : (a l : Bool) (m h : ℕ) → cond a None (option_map (λ n. n + m) (cond l None (Some h))) ≡ cond (a || l) None (Some (h + m))
joined true l m h = refl
joined false true m h = refl
joined false false m h = refl

pub rule_added : (f : ℕ → Bool) (h : ℕ → ℕ) (u : ℕ) (o : Option ℕ) → o ≡ cond (any_below u f) None (Some (total u h))
    → cond (f u) None (option_map (λ n. n + h u) o) ≡ cond (any_below (u + 1) f) None (Some (total (u + 1) h))
rule_added f h u o before = ap (λ x. cond (f u) None (option_map (λ n. n + h u) x)) before ∙ joined (f u) (any_below u f) (h u) (total u h) ∙ rw (any_below_more f u, total_more h u) refl

pub none_added : (f : ℕ → Bool) (h : ℕ → ℕ) (n k : ℕ) → k < n → get_or (replicate n (Some 0)) k None ≡ cond (any_below 0 f) None (Some (total 0 h))
none_added f h n k within = get_or-replicate n k (Some 0) None within ∙ rw (any_below_start f, total_start h) refl

pub none_above : (n m : ℕ) → AreAtMost m (replicate n (Some 0))
none_above n m k x there = elim (cases_lt k n) [
  | inl within ↦ (let zero_is : Some 0 ≡ Some x = sym (get_or-replicate n k (Some 0) None within) ∙ there in let e : 0 ≡ x = cc in omega arith)
  | inr past ↦ (let size : length (replicate {A = Option ℕ} n (Some 0)) ≡ n = length-replicate n (Some 0) in absurd (none-some x (sym (get_or_past (replicate n (Some 0)) k None (omega arith)) ∙ there)))
]
