-- Lists that loops fill and empty.
use Rattle.std.proofs.Common.{◌≡◌, ℕ, Bool, true, false, zero, suc, ◌+◌, List, [], ◌∷◌, ◌++◌, length, map, All, refl, sym, ap, ◌∙◌, subst, arith, append-nil, append_assoc}
use Rattle.std.specs.List.{range_with_len}
use Rattle.std.specs.Prelude.{MatchBool}
use Rattle.std.proofs.lemmas.List.{map-append}
use Rattle.std.proofs.lemmas.List.FromFn.{length-range_with_len, length-map-range_with_len, map-range_with_len_more}
use Rattle.std.proofs.lemmas.List.Elements.{All-append}

pub all_one : {X : Type 0} (P : X → Type 0) (x : X) → P x → All P (x ∷ [])
all_one P x p zero d low = p
all_one P x p (suc k) d low = absurd (omega arith)

pub all_more : {X : Type 0} (P : X → Type 0) (xs now : List X) (x : X) → now ≡ xs ++ x ∷ [] → All P xs → P x → All P now
all_more P xs now x is all p = subst (All P) (sym is) (All-append P xs (x ∷ []) all (all_one P x p))

pub all_none : {X : Type 0} (P : X → Type 0) (xs : List X) → xs ≡ [] → All P xs
all_none P [] is k d low = absurd (omega arith)
all_none P (x ∷ xs) is k d low = absurd (cc)

go_next : {X : Type 0} (P : X → Type 0) (ys : List X) (x : X) (zs : List X) → All P (ys ++ x ∷ zs) → P x
go_next P [] x zs all = all 0 x (omega arith)
go_next P (y ∷ ys) x zs all = go_next P ys x zs (λ k d low. all (suc k) d (omega arith))

-- what holds of all holds of the next
pub all_next : {X : Type 0} (P : X → Type 0) (all ys rest now : List X) (x : X) → All P all → all ≡ ys ++ rest → rest ≡ x ∷ now → P x
all_next P all ys rest now x h parts next = go_next P ys x now (subst (All P) (parts ∙ ap (λ l. ys ++ l) next) h)

pub map_more : {X Y : Type 0} (f : X → Y) (xs now : List X) (x : X) → now ≡ xs ++ x ∷ [] → map f now ≡ map f xs ++ f x ∷ []
map_more f xs now x is = ap (map f) is ∙ map-append f xs (x ∷ [])

-- two lists with equal images, and one more of each
pub map_both : {X Y Z : Type 0} (f : X → Z) (h : Y → Z) (xs now : List X) (x : X) (ys : List Y) (y : Y) → map f xs ≡ map h ys → now ≡ xs ++ x ∷ [] → f x ≡ h y → map f now ≡ map h (ys ++ y ∷ [])
map_both f h xs now x ys y were is same = map_more f xs now x is ∙ (λ i. were i ++ same i ∷ []) ∙ sym (map-append h ys (y ∷ []))

pub none_left : {X : Type 0} (n : ℕ) (xs : List X) → n ≡ length xs → n ≡ 0 → xs ≡ []
none_left n [] is zero_is = refl
none_left n (x ∷ xs) is zero_is = absurd (omega arith)

-- all have come
pub whole : {X : Type 0} (all ys rest : List X) (n : ℕ) → all ≡ ys ++ rest → n ≡ length rest → n ≡ 0 → all ≡ ys
whole all ys rest n parts is none = parts ∙ ap (λ l. ys ++ l) (none_left n rest is none) ∙ append-nil ys

-- the next of a list that is made of the numbers from n on
pub next_made : {X : Type 0} (f : ℕ → X) (n k j : ℕ) (x : X) (now items : List X) → items ≡ map f (range_with_len n k) → items ≡ x ∷ now → j + 1 ≡ k → (x ≡ f n) × (now ≡ map f (range_with_len (n + 1) j))
next_made f n zero j x now items made next step = absurd (omega arith)
next_made f n (suc k) j x now items made next step =
    let e : k ≡ j = omega arith in
    let both : x ∷ now ≡ f n ∷ map f (range_with_len (n + 1) k) = sym next ∙ made in
    let a : x ≡ f n = cc in
    let b : now ≡ map f (range_with_len (n + 1) k) = cc in
    (a, b ∙ ap (λ m. map f (range_with_len (n + 1) m)) e)

pub made_len : {X : Type 0} (f : ℕ → X) (n k : ℕ) (items : List X) → items ≡ map f (range_with_len n k) → length items ≡ k
made_len f n k items made = ap length made ∙ length-map-range_with_len f n k

range_id : (a n : ℕ) → map (λ (k : ℕ). k) (range_with_len a n) ≡ range_with_len a n
range_id a zero = refl
range_id a (suc n) = ap (λ l. a ∷ l) (range_id (a + 1) n)

pub range_more : (n : ℕ) → range_with_len 0 (n + 1) ≡ range_with_len 0 n ++ n ∷ []
range_more n = sym (range_id 0 (n + 1)) ∙ map-range_with_len_more (λ (k : ℕ). k) 0 n n (omega arith) ∙ ap (λ l. l ++ n ∷ []) (range_id 0 n)

pub length_map : {X Y : Type 0} (f : X → Y) (xs : List X) → length (map f xs) ≡ length xs
length_map f [] = refl
length_map f (x ∷ xs) = ap suc (length_map f xs)

pub mapped_len : {X : Type 0} (f : X → ℕ) (xs : List X) (n : ℕ) → map f xs ≡ range_with_len 0 n → length xs ≡ n
mapped_len f xs n e = sym (length_map f xs) ∙ ap length e ∙ length-range_with_len 0 n

pub yes : (b : Bool) (P Q : Type 0) → MatchBool b P Q → b ≡ true → P
yes true P Q m e = m
yes false P Q m e = absurd (cc)

pub no : (b : Bool) (P Q : Type 0) → MatchBool b P Q → b ≡ false → Q
no true P Q m e = absurd (cc)
no false P Q m e = m

-- what a loop that walks a list has seen, and what is left to it
pub record Walks {X : Type 0} (all came left : List X) (count : ℕ) : Type 0 where
  pub whole : all ≡ came ++ left
  pub counted : count ≡ length left

-- one step further
pub walked : {X : Type 0} (all came left now : List X) (x : X) (count less : ℕ) → Walks all came left count → left ≡ x ∷ now → less + 1 ≡ count → Walks all (came ++ x ∷ []) now less
walked all came left now x count less w next step =
    let counted = w.counted in
    let shorter = ap length next in record {
      whole = w.whole ∙ ap (λ l. came ++ l) next ∙ sym (append_assoc came (x ∷ []) now);
      counted = omega arith;
    }
