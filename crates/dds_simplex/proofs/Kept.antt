-- Columns that are kept, one by one.
use Rattle.std.proofs.Common.{◌≡◌, ◌<◌, ◌≤◌, ◌+◌, ℕ, ℤ, Bool, true, false, pos, negsuc, int_le, int_lt, rules, cond, List, [], ◌∷◌, ◌++◌, length, get_or, set, take, drop, refl, arith, ap, sym, ◌∙◌}
use Rattle.std.proofs.lemmas.List.{drop-drop, drop-set-lt, get_or-drop, length-take-le, take_more, take_more_set, append-nil}
use Rattle.dds_simplex.specs.Keeping.{kept_from, kept_columns}

-- whether a sum has a number below 0 in a column
abbrev lowers : List ℤ → ℕ → Bool
lowers sum column = int_lt (get_or sum column (pos 0)) (pos 0)

-- a number is below 0, or 0 isn't above it
pub below : (z : ℤ) → int_le (pos 0) z ≡ false → int_lt z (pos 0) ≡ true
below (pos n) h = search rules
below (negsuc n) h = search rules

pub not_below : (z : ℤ) → int_le (pos 0) z ≡ true → int_lt z (pos 0) ≡ false
not_below (pos n) h = search rules
not_below (negsuc n) h = search rules

kept_head : {A : Type 0} (sum : List ℤ) (k : ℕ) (y : A) (xs : List A) (b : Bool) → lowers sum k ≡ b → kept_from sum k (y ∷ xs) ≡ cond b (kept_from sum (k + 1) xs) (y ∷ kept_from sum (k + 1) xs)
kept_head sum k y xs true e = rw e refl
kept_head sum k y xs false e = rw e refl

after_head : {A : Type 0} (b : Bool) (y : A) (whole first last : List A) → whole ≡ first ++ last → cond b whole (y ∷ whole) ≡ cond b first (y ∷ first) ++ last
after_head true y whole first last h = h
after_head false y whole first last h = ap (λ zs. y ∷ zs) h

-- an item at the end
kept_push : {A : Type 0} (sum : List ℤ) (k n : ℕ) (xs : List A) (x : A) → k + length xs ≡ n → kept_from sum k (xs ++ x ∷ []) ≡ kept_from sum k xs ++ cond (lowers sum n) [] (x ∷ [])
kept_push sum k n [] x at =
    let here : k ≡ n = omega (arith, at) in
    kept_head sum k x [] (lowers sum k) refl ∙ ap (λ j. cond (lowers sum j) [] (x ∷ [])) here
kept_push sum k n (y ∷ ys) x at =
    let later : k + 1 + length ys ≡ n = omega (arith, at) in
    let last = cond (lowers sum n) [] (x ∷ []) in
    kept_head sum k y (ys ++ x ∷ []) (lowers sum k) refl ∙
    after_head (lowers sum k) y (kept_from sum (k + 1) (ys ++ x ∷ [])) (kept_from sum (k + 1) ys) last (kept_push sum (k + 1) n ys x later) ∙
    ap (λ zs. zs ++ last) (sym (kept_head sum k y ys (lowers sum k) refl))

-- the items up to one more column
kept_more : {A : Type 0} (sum : List ℤ) (old : List A) (column : ℕ) (y : A) → column < length old →
    kept_columns sum (take (column + 1) old) ≡ kept_columns sum (take column old) ++ cond (lowers sum column) [] (get_or old column y ∷ [])
kept_more sum old column y within =
    let up_to : column ≤ length old = omega arith in
    ap (kept_columns sum) (take_more old column y within) ∙ kept_push sum 0 column (take column old) (get_or old column y) (let l = length-take-le column old up_to in omega (arith, l))

get_or_dropped : {A : Type 0} (now old : List A) (column : ℕ) (y : A) → drop column now ≡ drop column old → get_or now column y ≡ get_or old column y
get_or_dropped now old column y rest =
    let at : column + 0 ≡ column = omega arith in
    ap (λ k. get_or now k y) (sym at) ∙ sym (get_or-drop column now 0 y) ∙ ap (λ zs. get_or zs 0 y) rest ∙ get_or-drop column old 0 y ∙ ap (λ k. get_or old k y) at

-- the item of the next column is kept
pub kept_next : {A : Type 0} (sum : List ℤ) (old now : List A) (kept column : ℕ) (y : A) → kept ≤ column → column < length now → length now ≡ length old → int_lt (get_or sum column (pos 0)) (pos 0) ≡ false →
    y ≡ get_or now column y → take kept now ≡ kept_columns sum (take column old) → drop column now ≡ drop column old → take (kept + 1) (set now kept y) ≡ kept_columns sum (take (column + 1) old)
kept_next sum old now kept column y le within len stays is first rest =
    let room : kept < length now = omega arith in
    let inside : column < length old = omega arith in
    let there : get_or now column y ≡ get_or old column y = get_or_dropped now old column y rest in
    take_more_set now kept y room ∙ ap (λ zs. zs ++ y ∷ []) first ∙ ap (λ z. kept_columns sum (take column old) ++ z ∷ []) (is ∙ there) ∙
    sym (kept_more sum old column y inside ∙ ap (λ b. kept_columns sum (take column old) ++ cond b [] (get_or old column y ∷ [])) stays)

-- the item of the next column is dropped
dropped_with : {A : Type 0} (y : A) (sum : List ℤ) (old now : List A) (kept column : ℕ) → column < length old → int_lt (get_or sum column (pos 0)) (pos 0) ≡ true →
    take kept now ≡ kept_columns sum (take column old) → take kept now ≡ kept_columns sum (take (column + 1) old)
dropped_with y sum old now kept column inside falls first =
    first ∙ sym (kept_more sum old column y inside ∙ ap (λ b. kept_columns sum (take column old) ++ cond b [] (get_or old column y ∷ [])) falls ∙ append-nil (kept_columns sum (take column old)))

pub dropped_next : {A : Type 0} (sum : List ℤ) (old now : List A) (kept column : ℕ) → column < length old → int_lt (get_or sum column (pos 0)) (pos 0) ≡ true →
    take kept now ≡ kept_columns sum (take column old) → take kept now ≡ kept_columns sum (take (column + 1) old)
dropped_next sum [] now kept column inside falls first = absurd (omega (arith, inside))
dropped_next sum (x ∷ xs) now kept column inside falls first = dropped_with x sum (x ∷ xs) now kept column inside falls first

-- the items after the column are where they were
pub rest_after : {A : Type 0} (old now : List A) (column : ℕ) → drop column now ≡ drop column old → drop (column + 1) now ≡ drop (column + 1) old
rest_after old now column rest = sym (drop-drop 1 column now) ∙ ap (drop 1) rest ∙ drop-drop 1 column old

pub rest_after_set : {A : Type 0} (old now : List A) (kept column : ℕ) (y : A) → kept ≤ column → drop column now ≡ drop column old → drop (column + 1) (set now kept y) ≡ drop (column + 1) old
rest_after_set old now kept column y le rest = let less : kept < column + 1 = omega arith in drop-set-lt (column + 1) now kept y less ∙ rest_after old now column rest
