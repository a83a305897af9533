-- How permits rise at the writers of a list.
use Rattle.std.proofs.Common.{ℕ, zero, suc, ◌≡◌, ◌+◌, ◌<◌, ◌==◌, ◌&&◌, nat_lt, Bool, true, false, if◌then◌else◌, List, [], ◌∷◌, ◌++◌, filter, length, get_or, take, inl, inr, refl, sym, ap, ◌∙◌, arith}
use Rattle.std.specs.List.{range_with_len}
use Rattle.std.proofs.Math.Numerals.{add-one}
use Rattle.std.proofs.lemmas.List.{take_more}
use Rattle.std.proofs.lemmas.Bool.{cases_eq, cases_Bool, cases_order, eq-eqb, ne_eqb, lt-ltb, le-ltb, and_right}
use Rattle.dds_base.proofs.Lists.{kept_push}
use Rattle.dds_match.specs.Network.{Network, IsNetwork, matched_writers}
use Rattle.dds_propose.specs.Following.{risen_by}
use Rattle.dds_propose.specs.Tables.{is_place}
use Rattle.dds_propose.proofs.Tables.{same_pair, other_pair, put_there, put_elsewhere}

risen_joined : (w n : ℕ) (xs ys : List ℕ) → risen_by w n (xs ++ ys) ≡ risen_by w n xs + risen_by w n ys
risen_joined w n [] ys = omega arith
risen_joined w n (x ∷ xs) ys = let rest = risen_joined w n xs ys in omega arith

-- one more of the list
risen_more : (w n i x : ℕ) (ws : List ℕ) → i < length ws → x ≡ get_or ws i x → risen_by w n (take (i + 1) ws) ≡ risen_by w n (take i ws) + (if x == w then n else 0)
risen_more w n i x ws within here =
    let joined = risen_joined w n (take i ws) (get_or ws i x ∷ []) in
    let last : risen_by w n (get_or ws i x ∷ []) ≡ (if get_or ws i x == w then n else 0) + 0 = refl in
    let same : (if get_or ws i x == w then n else 0) ≡ (if x == w then n else 0) = ap (λ y. if y == w then n else 0) (sym here) in
    ap (risen_by w n) (take_more ws i x within) ∙ omega arith

-- the permit of the next writer rises
pub permits_next : (old mid new : ℕ → ℕ → ℕ) (ws : List ℕ) (i x k n v : ℕ) → i < length ws → x ≡ get_or ws i x
    → ((w j : ℕ) → mid w j ≡ old w j + (if is_place w j && (j == k) then risen_by w n (take i ws) else 0)) → v ≡ mid x k + n
    → ((w j : ℕ) → new w j ≡ if is_place w j && ((w == x) && (j == k)) then v else mid w j)
    → (w j : ℕ) → new w j ≡ old w j + (if is_place w j && (j == k) then risen_by w n (take (i + 1) ws) else 0)
permits_next old mid new ws i x k n v within here before sum put w j = elim (cases_eq j k) [
  | inl key ↦ elim (cases_Bool (is_place w j)) [
    | inl there ↦ elim (cases_eq w x) [
      | inl own ↦
          let more = risen_more w n i x ws within here in
          let one : (if x == w then n else 0) ≡ n = rw (eq-eqb x w (sym own)) refl in
          let now = put w j ∙ put_there (mid w j) (is_place w j) ((w == x) && (j == k)) v there (same_pair w j x k own key) in
          let was : mid w j ≡ old w j + risen_by w n (take i ws) = before w j ∙ rw (there, eq-eqb j k key) refl in
          let at : mid x k ≡ mid w j = ap (λ y. mid y k) (sym own) ∙ ap (mid w) (sym key) in
          now ∙ (sum ∙ (rw (there, eq-eqb j k key) (omega arith)))
      | inr ne ↦
          let more = risen_more w n i x ws within here in
          let none : (if x == w then n else 0) ≡ 0 = rw (ne_eqb x w (λ e. ne (sym e))) refl in
          let now = put w j ∙ put_elsewhere (mid w j) (is_place w j) ((w == x) && (j == k)) v (other_pair w j x k (λ e. ne e.0)) in
          now ∙ (before w j ∙ ap (λ m. old w j + (if is_place w j && (j == k) then m else 0)) (omega arith))
    ]
    | inr outside ↦ put w j ∙ (rw outside (before w j ∙ rw outside refl))
  ]
  | inr ne ↦
      let now = put w j ∙ put_elsewhere (mid w j) (is_place w j) ((w == x) && (j == k)) v (other_pair w j x k (λ e. ne e.1)) in
      let apart : (is_place w j && (j == k)) ≡ false = and_right (is_place w j) (j == k) (ne_eqb j k ne) in
      now ∙ (before w j ∙ rw apart refl)
]

-- what the next writer adds
risen_one : (net : Network) (r w n m : ℕ) → risen_by w n (filter (λ i. net.matched i r) (m ∷ [])) ≡ (if (m == w) && net.matched w r then n else 0)
risen_one net r w n m = elim (cases_eq m w) [
  | inl own ↦ rw (own, eq-eqb w w refl) (go own (net.matched w r) refl)
  | inr ne ↦ rw (ne_eqb m w ne) (other ne (net.matched m r))
]
  where
    go : m ≡ w → (b : Bool) → net.matched w r ≡ b → risen_by w n (filter (λ i. net.matched i r) (w ∷ [])) ≡ (if net.matched w r then n else 0)
    go own true e = rw (e, eq-eqb w w refl) (omega arith)
    go own false e = rw e refl

    other : (m ≡ w → ⊥) → (b : Bool) → risen_by w n (if b then m ∷ [] else []) ≡ 0
    other ne true = rw (ne_eqb m w ne) refl
    other ne false = refl

-- a writer that matches is listed once
risen_upto : (net : Network) (r w n m : ℕ) → risen_by w n (filter (λ i. net.matched i r) (range_with_len 0 m)) ≡ (if nat_lt w m && net.matched w r then n else 0)
risen_upto net r w n zero = rw (le-ltb w 0 (omega arith)) refl
risen_upto net r w n (suc m) =
    let before = risen_upto net r w n m in
    let one = risen_one net r w n m in
    let passes = λ (i : ℕ). net.matched i r in
    let whole = ap (risen_by w n) (ap (λ i. filter passes (range_with_len 0 i)) (sym (add-one m)) ∙ kept_push passes m) ∙ risen_joined w n (filter passes (range_with_len 0 m)) (filter passes (m ∷ [])) in
    whole ∙ (rw (before, one) (split (net.matched w r)))
  where
    split : (b : Bool) → (if nat_lt w m && b then n else 0) + (if (m == w) && b then n else 0) ≡ (if nat_lt w (suc m) && b then n else 0)
    split b = elim (cases_order w m) [
      | inl own ↦ rw (le-ltb w m (omega arith), eq-eqb m w (sym own), lt-ltb w (suc m) (omega arith)) (omega arith)
      | inr (inl below) ↦ rw (lt-ltb w m below, ne_eqb m w (λ e. omega arith), lt-ltb w (suc m) (omega arith)) (omega arith)
      | inr (inr above) ↦ rw (le-ltb w m (omega arith), ne_eqb m w (λ e. omega arith), le-ltb w (suc m) (omega arith)) refl
    ]

pub risen_matched : (net : Network) → IsNetwork net → (r w n : ℕ) → risen_by w n (matched_writers net r) ≡ (if net.matched w r then n else 0)
risen_matched net known r w n = risen_upto net r w n net.writers ∙ go (net.matched w r) refl
  where
    go : (b : Bool) → net.matched w r ≡ b → (if nat_lt w net.writers && net.matched w r then n else 0) ≡ (if net.matched w r then n else 0)
    go true e = let there = known.matched_writer w r e in rw (lt-ltb w net.writers there) refl
    go false e = rw (e, and_right (nat_lt w net.writers) false refl) refl
