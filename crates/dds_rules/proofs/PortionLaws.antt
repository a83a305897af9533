-- What the elements of a rule's list name together.
use Rattle.std.proofs.Common.{◌≡◌, ◌≢◌, inl, inr, ℕ, zero, suc, ◌+◌, ◌*◌, ◌<◌, ◌≤◌, ◌^◌, Bool, false, ◌&&◌, ◌||◌, nat_lt, nat_le, List, [], ◌∷◌, ◌++◌, All, length, get_or, take, drop, refl, sym, ap, ◌∙◌, subst, arith}
use Rattle.std.specs.Prelude.{◌==◌}
use Rattle.std.specs.List.{list_any}
use Rattle.std.proofs.lemmas.Bool.{and_parts, or_parts, eqb-true, eq-eqb, ltb-false, leb-false, cases_Bool, cases_eq}
use Rattle.std.proofs.Math.Nat.{mul-le-mul_right}
use Rattle.std.proofs.lemmas.List.{take_more, take-append-drop}
use Rattle.dds_base.specs.declared.portion.Portion.{Portion}
use Rattle.dds_match.specs.Network.{named}
use Rattle.dds_runs.specs.Steps.{any_entry, is_empty}
use Rattle.dds_rules.specs.Exchange.{IsAlone, lacks_room, lacks_takes}
use Rattle.dds_rules.specs.Counts.{CountTable, IsMoreBy, count_at, only_at}
use Rattle.dds_rules.proofs.CountLaws.{and_more}

pub named-append : (xs ys : List (Portion ℕ)) (i k : ℕ) → named (xs ++ ys) i k ≡ named xs i k + named ys i k
named-append [] ys i k = omega arith
named-append (e ∷ xs) ys i k = let rest = named-append xs ys i k in omega arith

-- with one more element
pub named_more : (es : List (Portion ℕ)) (n : ℕ) (d : Portion ℕ) (i k : ℕ) → n < length es
    → named (take (n + 1) es) i k ≡ named (take n es) i k + only_at (get_or es n d).endpoint (get_or es n d).key (get_or es n d).count i k
named_more es n d i k within =
    let joined = named-append (take n es) (get_or es n d ∷ []) i k in
    ap (λ xs. named xs i k) (take_more es n d within) ∙ joined ∙ (omega arith)

-- the first elements name no more than all
pub named_part : (es : List (Portion ℕ)) (n : ℕ) (i k : ℕ) → named (take n es) i k ≤ named es i k
named_part es n i k =
    let joined = named-append (take n es) (drop n es) i k in
    let all = ap (λ xs. named xs i k) (take-append-drop n es) in
    omega arith

-- place n of the list has this endpoint, key and count
pub record IsElement (es : List (Portion ℕ)) (n i k c : ℕ) : Type 0 where
  pub within : n < length es
  pub portion : Portion ℕ
  pub at : portion ≡ get_or es n portion
  pub endpoint : i ≡ portion.endpoint
  pub key : k ≡ portion.key
  pub count : c ≡ portion.count

only_here : (i k c : ℕ) → only_at i k c i k ≡ c
only_here i k c = rw (eq-eqb i i refl, eq-eqb k k refl) refl

-- the elements up to one name what those before it name, and what it counts
pub element_more : (es : List (Portion ℕ)) (n i k c : ℕ) → IsElement es n i k c → (j l : ℕ) → named (take (n + 1) es) j l ≡ named (take n es) j l + only_at i k c j l
element_more es n i k c x j l =
    let more = named_more es n x.portion j l x.within in
    rw (x.endpoint, x.key, x.count) (subst (λ (e : Portion ℕ). named (take (n + 1) es) j l ≡ named (take n es) j l + only_at e.endpoint e.key e.count j l) (sym x.at) more)

pub element_upto : (es : List (Portion ℕ)) (n i k c : ℕ) → IsElement es n i k c → named (take n es) i k + c ≤ named es i k
element_upto es n i k c x =
    let more = element_more es n i k c x i k in
    let part = named_part es (n + 1) i k in
    let here = only_here i k c in
    omega arith

-- ── spending and giving, element by element
pub spend_there : (es : List (Portion ℕ)) (n i k c : ℕ) (old mid : CountTable) → IsElement es n i k c → ((r l : ℕ) → named es r l ≤ count_at old r l)
    → IsMoreBy (named (take n es)) mid old → c ≤ count_at mid i k
spend_there es n i k c old mid x there before =
    let upto = element_upto es n i k c x in let was = before.counts i k in let enough = there i k in omega arith

pub spend_more : (es : List (Portion ℕ)) (n i k c : ℕ) (old mid new : CountTable) → IsElement es n i k c
    → IsMoreBy (named (take n es)) mid old → IsMoreBy (only_at i k c) new mid → IsMoreBy (named (take (n + 1) es)) new old
spend_more es n i k c old mid new x before here = and_more new mid old (only_at i k c) (named (take n es)) (named (take (n + 1) es))
    (λ j l. let more = element_more es n i k c x j l in omega arith) here before

only_times : (i k c t j l : ℕ) → only_at i k (c * t) j l ≡ only_at i k c j l * t
only_times i k c t j l = elim (cases_Bool ((i == j) && (k == l))) [ inl here ↦ rw here refl | inr other ↦ rw other (omega arith) ]

pub give_room : (es : List (Portion ℕ)) (n i k c t limit : ℕ) (old mid : CountTable) → IsElement es n i k c
    → All (λ (e : Portion ℕ). count_at old e.endpoint e.key + named es e.endpoint e.key * t < limit) es
    → IsMoreBy (λ w l. named (take n es) w l * t) old mid → count_at mid i k + c * t < limit
give_room es n i k c t limit old mid x room before =
    let fits = subst (λ (e : Portion ℕ). count_at old e.endpoint e.key + named es e.endpoint e.key * t < limit) (sym x.at) (room n x.portion x.within) in
    let here : count_at old i k + named es i k * t < limit = rw (x.endpoint, x.key) fits in
    let upto = mul-le-mul_right t (element_upto es n i k c x) in let was = before.counts i k in omega arith

pub give_more : (es : List (Portion ℕ)) (n i k c t : ℕ) (old mid new : CountTable) → IsElement es n i k c
    → IsMoreBy (λ w l. named (take n es) w l * t) old mid → IsMoreBy (only_at i k (c * t)) mid new → IsMoreBy (λ w l. named (take (n + 1) es) w l * t) old new
give_more es n i k c t old mid new x before here = and_more old mid new (λ w l. named (take n es) w l * t) (only_at i k (c * t)) (λ w l. named (take (n + 1) es) w l * t)
    (λ j l. let more = element_more es n i k c x j l in let times = only_times i k c t j l in rw more (omega arith)) before here

-- ── tests
any_as : (p : Portion ℕ → Bool) (q : Portion ℕ → Bool) (xs : List (Portion ℕ)) → All (λ x. p x ≡ q x) xs → list_any p xs ≡ any_entry q xs
any_as p q [] same = refl
any_as p q (x ∷ xs) same = rw (same 0 x (omega arith), any_as p q xs (λ i d within. same (suc i) d (omega arith))) refl

-- where each element is alone, it is short by itself where it is short of what all name
pub short_alone : (spare : ℕ → ℕ → ℕ) (es : List (Portion ℕ)) → All (IsAlone es) es → (length es == 0) ≡ false
    → list_any (λ e. nat_lt (spare e.endpoint e.key) e.count) es ≡ lacks_takes spare es
short_alone spare es alone some =
    any_as _ (λ e. nat_lt (spare e.endpoint e.key) (named es e.endpoint e.key)) es (λ i d within. ap (nat_lt (spare (get_or es i d).endpoint (get_or es i d).key)) (sym (alone i d within)))
    ∙ not_empty es _ some
  where
    not_empty : (es : List (Portion ℕ)) (b : Bool) → (length es == 0) ≡ false → b ≡ (is_empty es || b)
    not_empty [] b some = absurd cc
    not_empty (e ∷ es) b some = refl

pub full_alone : (permits : ℕ → ℕ → ℕ) (es : List (Portion ℕ)) → All (IsAlone es) es
    → list_any (λ e. nat_le (2 ^ 64) (permits e.endpoint e.key + e.count)) es ≡ lacks_room permits es
full_alone permits es alone =
    any_as _ (λ e. nat_le (2 ^ 64) (permits e.endpoint e.key + named es e.endpoint e.key)) es
    (λ i d within. ap (λ n. nat_le (2 ^ 64) (permits (get_or es i d).endpoint (get_or es i d).key + n)) (sym (alone i d within)))

-- where no element is short of what all name, no place is
no_place_short : (all es : List (Portion ℕ)) (f : ℕ → ℕ → ℕ) → any_entry (λ e. nat_lt (f e.endpoint e.key) (named all e.endpoint e.key)) es ≡ false
    → (i k : ℕ) → named es i k ≢ 0 → named all i k ≤ f i k
no_place_short all [] f none i k some = absurd (some refl)
no_place_short all (e ∷ es) f none i k some =
    let parts = or_parts _ _ none in
    elim (cases_Bool ((e.endpoint == i) && (e.key == k))) [
      | inl here ↦ (let same = and_parts _ _ here in subst (λ j. named all j k ≤ f j k) (eqb-true _ _ same.0) (subst (λ l. named all e.endpoint l ≤ f e.endpoint l) (eqb-true _ _ same.1) (ltb-false _ _ parts.0)))
      | inr other ↦ no_place_short all es f parts.1 i k (λ z. some (rw (other, z) refl))
    ]

-- what is needed is there
pub enough : (spare : ℕ → ℕ → ℕ) (es : List (Portion ℕ)) → lacks_takes spare es ≡ false → (i k : ℕ) → named es i k ≤ spare i k
enough spare es none i k = elim (cases_eq (named es i k) 0) [
  | inl nothing ↦ omega arith
  | inr some ↦ no_place_short es es spare (or_parts _ _ none).1 i k some
]

-- there is room for what is given
any_none : (p : Portion ℕ → Bool) (es : List (Portion ℕ)) → any_entry p es ≡ false → All (λ e. p e ≡ false) es
any_none p [] none n d within = absurd (omega arith)
any_none p (e ∷ es) none zero d within = (or_parts _ _ none).0
any_none p (e ∷ es) none (suc n) d within = any_none p es (or_parts _ _ none).1 n d (omega arith)

pub room : (permits : ℕ → ℕ → ℕ) (es : List (Portion ℕ)) → lacks_room permits es ≡ false → All (λ e. permits e.endpoint e.key + named es e.endpoint e.key * 1 < 2 ^ 64) es
room permits es none n d within =
    let fits = leb-false _ _ (any_none (λ e. nat_le (2 ^ 64) (permits e.endpoint e.key + named es e.endpoint e.key)) es none n d within) in omega arith
