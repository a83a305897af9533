-- The table of what is named, as a loop fills it.
use Rattle.std.proofs.Common.{◌≡◌, ◌≢◌, inl, inr, ℕ, ◌+◌, ◌*◌, ◌<◌, Bool, true, false, ◌&&◌, ◌||◌, ◌==◌, List, [], ◌∷◌, ◌++◌, length, map, take, get_or, set, replicate, All, refl, sym, ap, ◌∙◌, arith, add-one, subst, length-set}
use Rattle.std.specs.List.{list_any}
use Rattle.std.proofs.Math.Seq.{take-suc}
use Rattle.std.proofs.lemmas.Bool.{cases_eq, eq-eqb, ne_eqb}
use Rattle.std.proofs.lemmas.List.{get_or-replicate, length-replicate, get_or_default, get_or-set_same, get_or-set_other, map_push}
use Rattle.std.proofs.lemmas.List.Folds.{list_any-append}
use Rattle.dds_base.proofs.Bools.{and_false, or_false, or_true}
use Rattle.dds_base.specs.Pairs.{stands}
use Rattle.dds_base.proofs.Lists.{list_any-map}
use Rattle.dds_weights.specs.Fits.{is_distinct}
use Rattle.dds_weights.specs.Named.{IsWithin, same_place, ShowsNamed}
use Rattle.dds_weights.proofs.DistinctLaws.{distinct_more, distinct_twice}

stands-push : (ps : List (ℕ × ℕ)) (p : ℕ × ℕ) (e k : ℕ) → stands (ps ++ p ∷ []) e k ≡ (stands ps e k || ((e == p.0 && k == p.1) || false))
stands-push ps p e k = list_any-append (λ q. e == q.0 && k == q.1) ps (p ∷ [])

-- the cell of the pair is written
cell_here : (cells : List Bool) (ps : List (ℕ × ℕ)) (e k : ℕ) → e * 64 + k < length cells → get_or (set cells (e * 64 + k) true) (e * 64 + k) false ≡ stands (ps ++ (e, k) ∷ []) e k
cell_here cells ps e k lt =
    get_or-set_same cells (e * 64 + k) true false lt
    ∙ sym (stands-push ps (e, k) e k ∙ rw (eq-eqb e e refl, eq-eqb k k refl) (or_true (stands ps e k)))

-- another cell stays
differs : (e k a b : ℕ) → ((e ≡ a) → k ≡ b → ⊥) → (e == a && k == b) ≡ false
differs e k a b h = elim (cases_eq e a) [
  | inl same ↦ rw (ne_eqb k b (h same)) (and_false (e == a))
  | inr ne ↦ rw (ne_eqb e a ne)
]

cell_there : (cells : List Bool) (ps : List (ℕ × ℕ)) (e k a b : ℕ) → k < 64 → b < 64 → ((e ≡ a) → k ≡ b → ⊥) → get_or cells (e * 64 + k) false ≡ stands ps e k → get_or (set cells (a * 64 + b) true) (e * 64 + k) false ≡ stands (ps ++ (a, b) ∷ []) e k
cell_there cells ps e k a b hk hb h old =
    let ne : e * 64 + k ≢ a * 64 + b = elim (cases_eq e a) [ inl same ↦ (λ z. h same (omega arith)) | inr far ↦ (λ z. far (omega arith)) ] in
    get_or-set_other cells (a * 64 + b) (e * 64 + k) true false ne
    ∙ old
    ∙ sym (stands-push ps (a, b) e k ∙ rw (differs e k a b h) (or_false (stands ps e k)))

cell_is : (cells : List Bool) (ps : List (ℕ × ℕ)) (a b e k : ℕ) → length cells ≡ 16384 → a < 256 → b < 64 → e < 256 → k < 64 → get_or cells (e * 64 + k) false ≡ stands ps e k → get_or (set cells (a * 64 + b) true) (e * 64 + k) false ≡ stands (ps ++ (a, b) ∷ []) e k
cell_is cells ps a b e k len ha hb he hk old = elim (cases_eq e a) [
  | inr ne ↦ cell_there cells ps e k a b hk hb (λ z w. ne z) old
  | inl z ↦ elim (cases_eq k b) [
    | inr ne ↦ cell_there cells ps e k a b hk hb (λ y w. ne w) old
    | inl w ↦ subst (λ f. get_or (set cells (f * 64 + b) true) (e * 64 + k) false ≡ stands (ps ++ (f, b) ∷ []) e k) z
        (subst (λ j. get_or (set cells (e * 64 + j) true) (e * 64 + k) false ≡ stands (ps ++ (e, j) ∷ []) e k) w (cell_here cells ps e k (omega arith)))
  ]
]

module _ {X : Type 0} (place : X → ℕ × ℕ) (xs : List X) where
  -- a list of entries names the pair of the new one where an entry has the same place
  named_before : (ys : List X) (x : X) → stands (map place ys) (place x).0 (place x).1 ≡ list_any (λ y. same_place place y x) ys
  named_before ys x = list_any-map (λ q. (place x).0 == q.0 && (place x).1 == q.1) place ys

  pub none_shown : (n : ℕ) → n ≡ 16384 → ShowsNamed place (replicate n false) (take 0 xs)
  none_shown n same = record {
    len = length-replicate n false ∙ same;
    shown = λ e k he hk. get_or-replicate n (e * 64 + k) false false (omega arith);
    distinct = refl;
  }

  -- at the entry x, which is the one at i, with the numbers e and k
  module _ (all : All (λ y. IsWithin (place y)) xs) (cells : List Bool) (i : ℕ) (x : X) (e k : ℕ) (f : Bool) (lt : i < length xs) (at : x ≡ get_or xs i x) (first : e ≡ (place x).0) (second : k ≡ (place x).1) (shows : ShowsNamed place cells (take i xs)) where
    within : IsWithin (place x)
    within = subst (λ y. IsWithin (place y)) (sym at) (all i x lt)

    cell : get_or cells (e * 64 + k) f ≡ list_any (λ y. same_place place y x) (take i xs)
    cell =
        let le = within.0 in let lk = within.1 in let len = shows.len in
        let inside : e * 64 + k < length cells = omega arith in
        sym (get_or_default cells (e * 64 + k) false f inside)
        ∙ shows.shown e k (omega arith) (omega arith)
        ∙ ap (λ n. stands (map place (take i xs)) n k) first
        ∙ ap (λ n. stands (map place (take i xs)) (place x).0 n) second
        ∙ named_before (take i xs) x

    pushed : map place (take i xs) ++ (e, k) ∷ [] ≡ map place (take (i + 1) xs)
    pushed = rw (add-one, take-suc xs i x lt, ← at, first, second) (sym (map_push place (take i xs) x))

    pub more_shown : get_or cells (e * 64 + k) f ≡ false → ShowsNamed place (set cells (e * 64 + k) true) (take (i + 1) xs)
    more_shown free = record {
      len = length-set cells (e * 64 + k) true ∙ shows.len;
      shown = λ a b ha hb. let le = within.0 in let lk = within.1 in
          cell_is cells (map place (take i xs)) e k a b shows.len (omega arith) (omega arith) ha hb (shows.shown a b ha hb) ∙ ap (λ ps. stands ps a b) pushed;
      distinct = distinct_more (same_place place) xs i x lt at shows.distinct (sym cell ∙ free);
    }

    pub twice_shown : get_or cells (e * 64 + k) f ≡ true → is_distinct (same_place place) xs ≡ false
    twice_shown taken = distinct_twice (same_place place) xs i x lt at (sym cell ∙ taken)
