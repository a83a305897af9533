-- How a scan of a name against a pattern goes on, with the `*` (42) that was passed last remembered.
use Rattle.std.proofs.Common.{eqb, not, map, subst, ◌≡◌, ℕ, ◌+◌, ◌-◌, ◌*◌, ◌<◌, ◌≤◌, Bool, true, false, ◌||◌, ◌&&◌, ◌⊎◌, List, [], ◌∷◌, length, Option, Some, None, drop, get_or, refl, sym, ◌∙◌, ap, inl, inr, arith}
use Rattle.std.proofs.Math.Nat.{mul-le-mul_right}
use Rattle.std.proofs.lemmas.List.{drop_more, drop_all, drop-drop}
use Rattle.std.specs.Prelude.{◌==◌}
use Rattle.std.specs.List.{list_all, list_any}
use Rattle.std.proofs.lemmas.Bool.{and_parts, or_cases, or_left, or_right, both_ways, eq-eqb, ne_eqb, cases_eq, cases_Bool, or_parts, eqb-false, eqb-true}
use Rattle.std.specs.Str.{bytes_eq}
use Rattle.dds_base.proofs.Bools.{and_false, or_false}
use Rattle.dds_match.specs.Partitions.{is_pattern, lists_match, name_matches, names_match, partition_names}
use Rattle.dds_match.specs.declared.partitions.Star.{Star}

-- ── lists of bytes
and_comm : (x y : Bool) → (x && y) ≡ (y && x)
and_comm true true = refl
and_comm true false = refl
and_comm false true = refl
and_comm false false = refl

pub any_of_map : {T : Type 0} (f : List ℕ → Bool) (bytes : T → List ℕ) (xs : List T) → list_any f (map bytes xs) ≡ list_any (λ x. f (bytes x)) xs
any_of_map f bytes [] = refl
any_of_map f bytes (x ∷ xs) = ap (λ b. f (bytes x) || b) (any_of_map f bytes xs)

pub star_nil : (q : List ℕ) → name_matches (42 ∷ q) [] ≡ name_matches q []
unfolding name_matches
star_nil q = or_false (name_matches q [])

pub star_cons : (q : List ℕ) (b : ℕ) (bs : List ℕ) → name_matches (42 ∷ q) (b ∷ bs) ≡ (name_matches q (b ∷ bs) || name_matches (42 ∷ q) bs)
unfolding name_matches
star_cons q b bs = refl

-- the run of a `*` may be empty
pub star_here : (q y : List ℕ) → name_matches q y ≡ true → name_matches (42 ∷ q) y ≡ true
star_here q [] h = star_nil q ∙ h
star_here q (b ∷ bs) h = star_cons q b bs ∙ or_left _ _ h

-- the run of a `*` may be one byte longer
pub star_longer : (q : List ℕ) (b : ℕ) (bs : List ℕ) → name_matches (42 ∷ q) bs ≡ true → name_matches (42 ∷ q) (b ∷ bs) ≡ true
star_longer q b bs h = star_cons q b bs ∙ or_right _ _ h

star_after_one : (q y : List ℕ) → name_matches (42 ∷ q) (drop 1 y) ≡ true → name_matches (42 ∷ q) y ≡ true
star_after_one q [] h = h
star_after_one q (b ∷ bs) h = star_longer q b bs h

-- two in a row are one
pub star_star : (q y : List ℕ) → name_matches (42 ∷ 42 ∷ q) y ≡ true → name_matches (42 ∷ q) y ≡ true
star_star q [] h = sym (star_nil (42 ∷ q)) ∙ h
star_star q (b ∷ bs) h = elim (or_cases _ _ (sym (star_cons (42 ∷ q) b bs) ∙ h)) [
  | inl here ↦ here
  | inr later ↦ star_longer q b bs (star_star q bs later)
]

-- a byte that is no `*` takes one byte
pub byte_takes : (c : ℕ) (q : List ℕ) (b : ℕ) (bs : List ℕ) → (c ≡ 42 → ⊥) → name_matches (c ∷ q) (b ∷ bs) ≡ true → name_matches q bs ≡ true
unfolding name_matches
byte_takes c q b bs ne = rw (ne_eqb c 42 ne) (λ h. (and_parts _ _ h).1)

pub byte_nil : (c : ℕ) (q : List ℕ) → (c ≡ 42 → ⊥) → name_matches (c ∷ q) [] ≡ false
unfolding name_matches
byte_nil c q ne = rw (ne_eqb c 42 ne) refl

pub star_byte : (c : ℕ) (q y : List ℕ) → (c ≡ 42 → ⊥) → name_matches (42 ∷ c ∷ q) y ≡ true → name_matches (42 ∷ q) (drop 1 y) ≡ true
star_byte c q [] ne h = absurd (both_ways _ (byte_nil c q ne) (sym (star_nil (c ∷ q)) ∙ h))
star_byte c q (b ∷ bs) ne h = elim (or_cases _ _ (sym (star_cons (c ∷ q) b bs) ∙ h)) [
  | inl here ↦ star_here q bs (byte_takes c q b bs ne here)
  | inr later ↦ star_after_one q bs (star_byte c q bs ne later)
]

-- a byte that stands for the name's first one
pub byte_step : (c b : ℕ) (q bs : List ℕ) → (c ≡ 42 → ⊥) → (c ≡ 63) ⊎ (c ≡ b) → name_matches (c ∷ q) (b ∷ bs) ≡ name_matches q bs
unfolding name_matches
byte_step c b q bs ne same = rw (ne_eqb c 42 ne) (elim same [
  | inl any ↦ rw (eq-eqb c 63 any) refl
  | inr self ↦ rw (eq-eqb c b self) (ap (λ x. x && name_matches q bs) (or_right (eqb c 63) true refl))
])

pub byte_other : (c b : ℕ) (q bs : List ℕ) → (c ≡ 42 → ⊥) → (c ≡ 63 → ⊥) → (c ≡ b → ⊥) → name_matches (c ∷ q) (b ∷ bs) ≡ false
unfolding name_matches
byte_other c b q bs ne any other = rw (ne_eqb c 42 ne, ne_eqb c 63 any, ne_eqb c b other) refl

-- at places of both
pub step_at : (pattern name : List ℕ) (at place : ℕ) → at < length pattern → place < length name → (get_or pattern at 0 ≡ 42 → ⊥)
    → (get_or pattern at 0 ≡ 63) ⊎ (get_or pattern at 0 ≡ get_or name place 0) → name_matches (drop at pattern) (drop place name) ≡ name_matches (drop (at + 1) pattern) (drop (place + 1) name)
step_at pattern name at place within inside ne same = ap (λ q. name_matches q (drop place name)) (drop_more pattern at 0 within) ∙ ap (name_matches (get_or pattern at 0 ∷ drop (at + 1) pattern)) (drop_more name place 0 inside) ∙ byte_step _ _ _ _ ne same

pub stuck_at : (pattern name : List ℕ) (at place : ℕ) → at < length pattern → place < length name → (get_or pattern at 0 ≡ 42 → ⊥)
    → (get_or pattern at 0 ≡ 63 → ⊥) → (get_or pattern at 0 ≡ get_or name place 0 → ⊥) → name_matches (drop at pattern) (drop place name) ≡ false
stuck_at pattern name at place within inside ne any other = ap (λ q. name_matches q (drop place name)) (drop_more pattern at 0 within) ∙ ap (name_matches (get_or pattern at 0 ∷ drop (at + 1) pattern)) (drop_more name place 0 inside) ∙ byte_other _ _ _ _ ne any other

pub nil_cons : (b : ℕ) (bs : List ℕ) → name_matches [] (b ∷ bs) ≡ false
unfolding name_matches
nil_cons b bs = refl

pub stuck_past : (pattern name : List ℕ) (at place : ℕ) → length pattern ≤ at → place < length name → name_matches (drop at pattern) (drop place name) ≡ false
stuck_past pattern name at place past inside = ap (λ q. name_matches q (drop place name)) (drop_all at pattern past) ∙ ap (name_matches []) (drop_more name place 0 inside) ∙ nil_cons _ _

pub empty_nil : true ≡ name_matches [] []
unfolding name_matches
empty_nil = refl

stars_byte : (c : ℕ) (q : List ℕ) → (c ≡ 42 → ⊥) → list_all (λ b. b == 42) (c ∷ q) ≡ name_matches (c ∷ q) []
stars_byte c q ne = rw (ne_eqb c 42 ne) (sym (byte_nil c q ne))

-- two tests that imply each other
same_tests : (x y : Bool) → (x ≡ true → y ≡ true) → (y ≡ true → x ≡ true) → x ≡ y
same_tests true y onward back = sym (onward refl)
same_tests false true onward back = back refl
same_tests false false onward back = refl

-- where a try fails, the run of the `*` is one byte longer
pub star_fails : (q : List ℕ) (b : ℕ) (bs : List ℕ) → name_matches q (b ∷ bs) ≡ false → name_matches (42 ∷ q) (b ∷ bs) ≡ name_matches (42 ∷ q) bs
star_fails q b bs h = star_cons q b bs ∙ ap (λ x. x || name_matches (42 ∷ q) bs) h

-- a rest that is all stars has the empty run
pub stars_only : (q : List ℕ) → list_all (λ b. b == 42) q ≡ name_matches q []
stars_only [] = empty_nil
stars_only (c ∷ q) = elim (cases_eq c 42) [
  | inl e ↦ subst (λ x. list_all (λ b. b == 42) (x ∷ q) ≡ name_matches (x ∷ q) []) (sym e) (stars_only q ∙ sym (star_nil q))
  | inr ne ↦ stars_byte c q ne
]

-- ── at places of a pattern and a name
-- what a `*` that was passed says: the whole is a question of what its run is, which is tried up to a place; the answer of that
-- try is the answer at the two places; and where the name has the pattern, what is left of it lies behind them
pub record IsTried (pattern name : List ℕ) (at place : ℕ) (star : Star) : Type 0 where
  pub after : star.after ≤ at
  pub tried : star.tried ≤ place
  pub whole : name_matches pattern name ≡ name_matches (42 ∷ drop star.after pattern) (drop star.tried name)
  pub attempt : name_matches (drop star.after pattern) (drop star.tried name) ≡ name_matches (drop at pattern) (drop place name)
  pub later : name_matches pattern name ≡ true → name_matches (42 ∷ drop at pattern) (drop place name) ≡ true

-- the answer of the whole is the answer at the two places, or what the last `*` says
abbrev pub IsOpen : List ℕ → List ℕ → ℕ → ℕ → Option Star → Type 0
IsOpen pattern name at place None = name_matches pattern name ≡ name_matches (drop at pattern) (drop place name)
IsOpen pattern name at place (Some star) = IsTried pattern name at place star

-- what the scan keeps
pub record IsScan (pattern name : List ℕ) (at place : ℕ) (star : Option Star) : Type 0 where
  pub in_pattern : at ≤ length pattern
  pub in_name : place ≤ length name
  pub answer : IsOpen pattern name at place star

-- a `*` is passed
pub passes_star : (pattern name : List ℕ) (at place : ℕ) (star : Option Star) → at < length pattern → get_or pattern at 0 ≡ 42
    → IsScan pattern name at place star → IsScan pattern name (at + 1) place (Some (record { after = at + 1; tried = place }))
passes_star pattern name at place None within e s =
    let front : drop at pattern ≡ 42 ∷ drop (at + 1) pattern = drop_more pattern at 0 within ∙ ap (λ c. c ∷ drop (at + 1) pattern) e in
    let whole : name_matches pattern name ≡ name_matches (42 ∷ drop (at + 1) pattern) (drop place name) = s.answer ∙ ap (λ q. name_matches q (drop place name)) front in
    record { in_pattern = omega arith; in_name = s.in_name; answer = record { after = omega arith; tried = omega arith; whole = whole; attempt = refl; later = λ h. sym whole ∙ h } }
passes_star pattern name at place (Some star) within e s =
    let tried : IsTried pattern name at place star = s.answer in
    let front : drop at pattern ≡ 42 ∷ drop (at + 1) pattern = drop_more pattern at 0 within ∙ ap (λ c. c ∷ drop (at + 1) pattern) e in
    let onward : name_matches pattern name ≡ true → name_matches (42 ∷ drop (at + 1) pattern) (drop place name) ≡ true = λ h. star_star _ _ (sym (ap (λ q. name_matches (42 ∷ q) (drop place name)) front) ∙ tried.later h) in
    let back : name_matches (42 ∷ drop (at + 1) pattern) (drop place name) ≡ true → name_matches pattern name ≡ true = λ h. tried.whole ∙ star_here _ _ (tried.attempt ∙ ap (λ q. name_matches q (drop place name)) front ∙ h) in
    record { in_pattern = omega arith; in_name = s.in_name; answer = record { after = omega arith; tried = omega arith; whole = same_tests _ _ onward back; attempt = refl; later = onward } }

-- a byte stands for the name's byte
pub passes_byte : (pattern name : List ℕ) (at place : ℕ) (star : Option Star) → at < length pattern → place < length name → (get_or pattern at 0 ≡ 42 → ⊥)
    → (get_or pattern at 0 ≡ 63) ⊎ (get_or pattern at 0 ≡ get_or name place 0) → IsScan pattern name at place star → IsScan pattern name (at + 1) (place + 1) star
passes_byte pattern name at place None within inside ne same s =
    let step : name_matches (drop at pattern) (drop place name) ≡ name_matches (drop (at + 1) pattern) (drop (place + 1) name) = step_at pattern name at place within inside ne same in
    record { in_pattern = omega arith; in_name = omega arith; answer = s.answer ∙ step }
passes_byte pattern name at place (Some star) within inside ne same s =
    let tried : IsTried pattern name at place star = s.answer in
    let step : name_matches (drop at pattern) (drop place name) ≡ name_matches (drop (at + 1) pattern) (drop (place + 1) name) = step_at pattern name at place within inside ne same in
    let later : name_matches pattern name ≡ true → name_matches (42 ∷ drop (at + 1) pattern) (drop (place + 1) name) ≡ true = λ h.
    subst (λ y. name_matches (42 ∷ drop (at + 1) pattern) y ≡ true) (drop-drop 1 place name)
    (star_byte (get_or pattern at 0) (drop (at + 1) pattern) (drop place name) ne (sym (ap (λ q. name_matches (42 ∷ q) (drop place name)) (drop_more pattern at 0 within)) ∙ tried.later h)) in
    let after = tried.after in let before = tried.tried in
    record { in_pattern = omega arith; in_name = omega arith; answer = record { after = omega arith; tried = omega arith; whole = tried.whole; attempt = tried.attempt ∙ step; later = later } }

-- another try of the `*`
pub tries_again : (pattern name : List ℕ) (at place : ℕ) (star : Star) → place < length name → name_matches (drop at pattern) (drop place name) ≡ false
    → IsScan pattern name at place (Some star) → IsScan pattern name star.after (star.tried + 1) (Some (record { after = star.after; tried = star.tried + 1 }))
tries_again pattern name at place star inside stuck s =
    let tried : IsTried pattern name at place star = s.answer in
    let after = tried.after in let before = tried.tried in let at_end = s.in_pattern in
    let byte : drop star.tried name ≡ get_or name star.tried 0 ∷ drop (star.tried + 1) name = drop_more name star.tried 0 (omega arith) in
    let failed : name_matches (drop star.after pattern) (get_or name star.tried 0 ∷ drop (star.tried + 1) name) ≡ false = sym (ap (name_matches (drop star.after pattern)) byte) ∙ tried.attempt ∙ stuck in
    let whole : name_matches pattern name ≡ name_matches (42 ∷ drop star.after pattern) (drop (star.tried + 1) name) = tried.whole ∙ ap (name_matches (42 ∷ drop star.after pattern)) byte ∙ star_fails _ _ _ failed in
    record { in_pattern = omega arith; in_name = omega arith; answer = record { after = omega arith; tried = omega arith; whole = whole; attempt = refl; later = λ h. sym whole ∙ h } }

-- at the name's end, what is left of the pattern has to have the empty run
pub ends : (pattern name : List ℕ) (at place : ℕ) (star : Option Star) → length name ≤ place → IsScan pattern name at place star → name_matches pattern name ≡ name_matches (drop at pattern) []
ends pattern name at place None past s = s.answer ∙ ap (name_matches (drop at pattern)) (drop_all place name past)
ends pattern name at place (Some star) past s =
    let tried : IsTried pattern name at place star = s.answer in
    let nothing : drop place name ≡ [] = drop_all place name past in
    same_tests _ _
    (λ h. sym (star_nil (drop at pattern)) ∙ sym (ap (name_matches (42 ∷ drop at pattern)) nothing) ∙ tried.later h)
    (λ h. tried.whole ∙ star_here _ _ (tried.attempt ∙ ap (name_matches (drop at pattern)) nothing ∙ h))

-- with no `*` to try again the name does not have the pattern
pub gives_up : (pattern name : List ℕ) (at place : ℕ) → name_matches (drop at pattern) (drop place name) ≡ false → IsScan pattern name at place None → name_matches pattern name ≡ false
gives_up pattern name at place stuck s = s.answer ∙ stuck

-- ── the tries left, which fall with each step
-- other stars, and longer runs of the one that was passed last
abbrev pub tries : ℕ → ℕ → Option Star → ℕ
tries m n None = m * (n + 1) + n
tries m n (Some star) = (m - star.after) * (n + 1) + (n - star.tried)

-- with the bytes of the pattern that this try has before it
abbrev pub steps_left : ℕ → ℕ → ℕ → Option Star → ℕ
steps_left m n at star = tries m n star * (m + 1) + (m - at)

lexicographic : (x y c d p : ℕ) → x < y → c ≤ p → x * (p + 1) + c < y * (p + 1) + d
lexicographic x y c d p less within = let grows : (x + 1) * (p + 1) ≤ y * (p + 1) = mul-le-mul_right (p + 1) (omega arith) in omega arith

-- passing a `*` leaves fewer
pub fewer_steps : (pattern name : List ℕ) (at place : ℕ) (star : Option Star) → at < length pattern → place < length name → IsScan pattern name at place star
    → steps_left (length pattern) (length name) (at + 1) (Some (record { after = at + 1; tried = place })) < steps_left (length pattern) (length name) at star
fewer_steps pattern name at place None within inside scan =
    lexicographic ((length pattern - (at + 1)) * (length name + 1) + (length name - place)) (length pattern * (length name + 1) + length name) (length pattern - (at + 1)) (length pattern - at) (length pattern)
    (lexicographic (length pattern - (at + 1)) (length pattern) (length name - place) (length name) (length name) (omega arith) (omega arith)) (omega arith)
fewer_steps pattern name at place (Some star) within inside scan =
    let tried : IsTried pattern name at place star = scan.answer in
    let after = tried.after in
    lexicographic ((length pattern - (at + 1)) * (length name + 1) + (length name - place)) ((length pattern - star.after) * (length name + 1) + (length name - star.tried)) (length pattern - (at + 1)) (length pattern - at) (length pattern)
    (lexicographic (length pattern - (at + 1)) (length pattern - star.after) (length name - place) (length name - star.tried) (length name) (omega arith) (omega arith)) (omega arith)

-- ── names and lists of names
-- a pattern without a wildcard has itself alone
pub plain_matches : (pattern name : List ℕ) → is_pattern pattern ≡ false → name_matches pattern name ≡ bytes_eq name pattern
plain_matches [] [] plain = sym empty_nil
plain_matches [] (b ∷ bs) plain = nil_cons b bs
plain_matches (c ∷ q) [] plain = byte_nil c q (eqb-false c 42 (or_parts _ _ (or_parts _ _ plain).0).0)
plain_matches (c ∷ q) (b ∷ bs) plain =
    let wild = or_parts _ _ (or_parts _ _ plain).0 in
    let star = eqb-false c 42 wild.0 in
    elim (cases_eq c b) [
      | inl same ↦ byte_step c b q bs star (inr same) ∙ plain_matches q bs (or_parts _ _ plain).1 ∙ sym (ap (λ x. x && bytes_eq bs q) (eq-eqb b c (sym same)))
      | inr other ↦ byte_other c b q bs star (eqb-false c 63 wild.1) other ∙ sym (ap (λ x. x && bytes_eq bs q) (ne_eqb b c (λ e. other (sym e))))
    ]

-- one name is a pattern
pub names_match_pattern : (x y : List ℕ) → is_pattern x ≡ true → names_match x y ≡ (name_matches x y && not (is_pattern y))
unfolding names_match
names_match_pattern x y wild = rw wild (and_comm (not (is_pattern y)) (name_matches x y))

-- the first name is no pattern
pub names_match_plain : (x y : List ℕ) → is_pattern x ≡ false → names_match x y ≡ name_matches y x
unfolding names_match
names_match_plain x y plain = rw plain (elim (cases_Bool (is_pattern y)) [
  | inl wild ↦ rw wild refl
  | inr bare ↦ rw bare (sym (plain_matches y x bare))
])

pub any_same : {T : Type 0} (f g : T → Bool) (xs : List T) → ((x : T) → f x ≡ g x) → list_any f xs ≡ list_any g xs
any_same f g [] same = refl
any_same f g (x ∷ xs) same = rw (same x, any_same f g xs same) refl

-- the names of a list that isn't empty are its own
pub names_of_some : {T : Type 0} (f : List ℕ → Bool) (bytes : T → List ℕ) (xs : List T) → (length xs == 0) ≡ false → list_any f (partition_names (map bytes xs)) ≡ list_any (λ x. f (bytes x)) xs
names_of_some f bytes [] e = absurd cc
names_of_some f bytes (x ∷ xs) e = ap (λ b. f (bytes x) || b) (any_of_map f bytes xs)

-- an empty list has the empty name
pub one_empty_name : {T : Type 0} (f : List ℕ → Bool) (bytes : T → List ℕ) (xs : List T) → (length xs == 0) ≡ true → list_any f (partition_names (map bytes xs)) ≡ f []
one_empty_name f bytes [] e = or_false (f [])
one_empty_name f bytes (x ∷ xs) e = let none : length (x ∷ xs) ≡ 0 = eqb-true _ _ e in absurd (omega arith)

-- ── lists by the side that has no wildcards
-- one name is plain, and is the other or has its pattern; or the other is plain, and has the pattern of the one
names_split : (x y : List ℕ) → names_match x y ≡ ((not (is_pattern x) && name_matches y x) || (not (is_pattern y) && (is_pattern x && name_matches x y)))
names_split x y = elim (cases_Bool (is_pattern x)) [
  | inl wild ↦ names_match_pattern x y wild ∙ and_comm (name_matches x y) (not (is_pattern y)) ∙ sym (rw wild refl)
  | inr plain ↦ names_match_plain x y plain ∙ sym (rw plain (ap (λ b. name_matches y x || b) (and_false (not (is_pattern y))) ∙ or_false (name_matches y x)))
]

or_shuffle : (a b c d : Bool) → ((a || b) || (c || d)) ≡ ((a || c) || (b || d))
or_shuffle true b c d = refl
or_shuffle false true true d = refl
or_shuffle false true false d = refl
or_shuffle false false c d = refl

any_or : {T : Type 0} (f g : T → Bool) (xs : List T) → list_any (λ x. f x || g x) xs ≡ (list_any f xs || list_any g xs)
any_or f g [] = refl
any_or f g (x ∷ xs) = ap (λ b. (f x || g x) || b) (any_or f g xs) ∙ or_shuffle (f x) (g x) (list_any f xs) (list_any g xs)

any_and : {T : Type 0} (b : Bool) (f : T → Bool) (xs : List T) → list_any (λ x. b && f x) xs ≡ (b && list_any f xs)
any_and true f xs = refl
any_and false f [] = refl
any_and false f (x ∷ xs) = any_and false f xs

any_false : {T : Type 0} (xs : List T) → list_any (λ x. false) xs ≡ false
any_false [] = refl
any_false (x ∷ xs) = any_false xs

any_swap : {T U : Type 0} (f : T → U → Bool) (xs : List T) (ys : List U) → list_any (λ x. list_any (f x) ys) xs ≡ list_any (λ y. list_any (λ x. f x y) xs) ys
any_swap f [] ys = sym (any_false ys)
any_swap f (x ∷ xs) ys = ap (λ b. list_any (f x) ys || b) (any_swap f xs ys) ∙ sym (any_or (f x) (λ y. list_any (λ z. f z y) xs) ys)

-- the empty name is no pattern
patterns_of_names : (f : List ℕ → Bool) (xs : List (List ℕ)) → list_any (λ x. is_pattern x && f x) (partition_names xs) ≡ list_any (λ x. is_pattern x && f x) xs
patterns_of_names f [] = refl
patterns_of_names f (x ∷ xs) = refl

no_patterns : (f : List ℕ → Bool) (xs : List (List ℕ)) → list_any is_pattern xs ≡ false → list_any (λ x. is_pattern x && f x) xs ≡ false
no_patterns f [] none = refl
no_patterns f (x ∷ xs) none =
    let first : is_pattern x ≡ false = (or_parts (is_pattern x) (list_any is_pattern xs) none).0 in
    let others : list_any is_pattern xs ≡ false = (or_parts (is_pattern x) (list_any is_pattern xs) none).1 in
    ap (λ b. (b && f x) || list_any (λ y. is_pattern y && f y) xs) first ∙ no_patterns f xs others

abbrev pub some_meets : List (List ℕ) → List (List ℕ) → Bool
some_meets xs ys = list_any (λ x. not (is_pattern x) && list_any (λ y. name_matches y x) (partition_names ys)) (partition_names xs)

abbrev pub some_has_pattern : List (List ℕ) → List (List ℕ) → Bool
some_has_pattern ys xs = list_any (λ y. not (is_pattern y) && list_any (λ x. is_pattern x && name_matches x y) xs) (partition_names ys)

none_has_pattern : (ys xs : List (List ℕ)) → list_any is_pattern xs ≡ false → some_has_pattern ys xs ≡ false
none_has_pattern ys xs none = any_same _ (λ y. false) (partition_names ys) (λ y. ap (λ b. not (is_pattern y) && b) (no_patterns (λ x. name_matches x y) xs none) ∙ and_false (not (is_pattern y))) ∙ any_false (partition_names ys)

where_some : (b c : Bool) → (b ≡ false → c ≡ false) → c ≡ (b && c)
where_some true c none = refl
where_some false c none = none refl

lists_split : (xs ys : List (List ℕ)) → lists_match xs ys ≡ (some_meets xs ys || (list_any is_pattern xs && some_has_pattern ys xs))
unfolding lists_match
lists_split xs ys =
    any_same _ (λ x. (not (is_pattern x) && list_any (λ y. name_matches y x) (partition_names ys)) || list_any (λ y. not (is_pattern y) && (is_pattern x && name_matches x y)) (partition_names ys)) (partition_names xs)
    (λ x. any_same (names_match x) _ (partition_names ys) (names_split x)
    ∙ any_or (λ y. not (is_pattern x) && name_matches y x) (λ y. not (is_pattern y) && (is_pattern x && name_matches x y)) (partition_names ys)
    ∙ ap (λ b. b || list_any (λ y. not (is_pattern y) && (is_pattern x && name_matches x y)) (partition_names ys)) (any_and (not (is_pattern x)) (λ y. name_matches y x) (partition_names ys)))
    ∙ any_or (λ x. not (is_pattern x) && list_any (λ y. name_matches y x) (partition_names ys)) (λ x. list_any (λ y. not (is_pattern y) && (is_pattern x && name_matches x y)) (partition_names ys)) (partition_names xs)
    ∙ ap (λ b. some_meets xs ys || b) (any_swap (λ x y. not (is_pattern y) && (is_pattern x && name_matches x y)) (partition_names xs) (partition_names ys)
    ∙ any_same _ _ (partition_names ys) (λ y. any_and (not (is_pattern y)) (λ x. is_pattern x && name_matches x y) (partition_names xs) ∙ ap (λ b. not (is_pattern y) && b) (patterns_of_names (λ x. name_matches x y) xs))
    ∙ where_some (list_any is_pattern xs) (some_has_pattern ys xs) (none_has_pattern ys xs))

pub split_found : (xs ys : List (List ℕ)) → some_meets xs ys ≡ true → true ≡ lists_match xs ys
split_found xs ys found = sym (lists_split xs ys ∙ ap (λ b. b || (list_any is_pattern xs && some_has_pattern ys xs)) found)

pub split_patterns : (xs ys : List (List ℕ)) → some_meets xs ys ≡ false → list_any is_pattern xs ≡ true → some_has_pattern ys xs ≡ lists_match xs ys
split_patterns xs ys none wild = sym (lists_split xs ys ∙ ap (λ b. b || (list_any is_pattern xs && some_has_pattern ys xs)) none ∙ ap (λ b. b && some_has_pattern ys xs) wild)

pub split_plain : (xs ys : List (List ℕ)) → some_meets xs ys ≡ false → list_any is_pattern xs ≡ false → false ≡ lists_match xs ys
split_plain xs ys none plain = sym (lists_split xs ys ∙ ap (λ b. b || (list_any is_pattern xs && some_has_pattern ys xs)) none ∙ ap (λ b. b && some_has_pattern ys xs) plain)
