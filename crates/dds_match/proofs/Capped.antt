-- The sum of the caps of the writers that match a reader, and the sums of all places.
use Rattle.std.proofs.Common.{◌≡◌, ℕ, zero, suc, ◌+◌, ◌*◌, ◌/◌, ◌%◌, ◌<◌, ◌≤◌, Bool, true, false, cond, ◌&&◌, ◌||◌, not, List, [], ◌∷◌, ◌++◌, filter, length, get_or, Option, Some, None, refl, ◌∙◌, ap, arith, below_more}
use Rattle.std.specs.Prelude.{is_none}
use Rattle.std.specs.List.{range_with_len}
use Rattle.std.specs.Option.{option_map_or}
use Rattle.std.proofs.lemmas.List.{get_or_append_left, get_or_push}
use Rattle.std.proofs.lemmas.List.Filters.{length-filter_both}
use Rattle.std.proofs.lemmas.List.FromFn.{length-range_with_len}
use Rattle.dds_base.specs.Sums.{total, any_below}
use Rattle.dds_base.proofs.Lists.{kept_push}
use Rattle.dds_match.specs.Network.{Network, capped, matched_writers}
use Rattle.dds_match.specs.Sums.{add_both, sum_of}
use Rattle.dds_match.proofs.Sums.{sum_append}

-- ── sums of caps
-- one of the first n that count has none
abbrev lacks : (ℕ → Bool) → (ℕ → Option ℕ) → ℕ → Bool
lacks counts f n = any_below n (λ w. counts w && is_none (f w))

-- what the first n that count have together
abbrev have : (ℕ → Bool) → (ℕ → Option ℕ) → ℕ → ℕ
have counts f n = total n (λ w. cond (counts w) (option_map_or (λ m. m) (f w) 0) 0)

-- one more that counts, or doesn't
one_more : (b : Bool) (o : Option ℕ) (l : Bool) (h : ℕ) → add_both (cond l None (Some h)) (cond b (add_both o (Some 0)) (Some 0)) ≡ cond ((b && is_none o) || l) None (Some (h + cond b (option_map_or (λ m. m) o 0) 0))
one_more true None true h = refl
one_more true None false h = refl
one_more true (Some m) true h = refl
one_more true (Some m) false h = ap Some (omega arith)
one_more false o true h = refl
one_more false o false h = refl

last_of : (counts : ℕ → Bool) (f : ℕ → Option ℕ) (n : ℕ) (b : Bool) → counts n ≡ b → sum_of f (filter counts (n ∷ [])) ≡ cond (counts n) (add_both (f n) (Some 0)) (Some 0)
last_of counts f n true e = rw e refl
last_of counts f n false e = rw e refl

sum_kept : (counts : ℕ → Bool) (f : ℕ → Option ℕ) (n : ℕ) → sum_of f (filter counts (range_with_len 0 n)) ≡ cond (lacks counts f n) None (Some (have counts f n))
unfolding any_below total
sum_kept counts f zero = refl
sum_kept counts f (suc n) =
    let next : suc n ≡ n + 1 = omega arith in
    let earlier = sum_kept counts f n in
    let last = last_of counts f n (counts n) refl in
    ap (λ m. sum_of f (filter counts (range_with_len 0 m))) next
    ∙ ap (sum_of f) (kept_push counts n)
    ∙ sum_append f (filter counts (range_with_len 0 n)) (filter counts (n ∷ []))
    ∙ ap (λ o. add_both o (sum_of f (filter counts (n ∷ [])))) earlier
    ∙ ap (add_both (cond (lacks counts f n) None (Some (have counts f n)))) last
    ∙ one_more (counts n) (f n) (lacks counts f n) (have counts f n)

pub sum_matched : (net : Network) (r k : ℕ) → sum_of (λ w. net.cap w r k) (matched_writers net r) ≡ capped net r k
sum_matched net r k = sum_kept (λ w. net.matched w r) (λ w. net.cap w r k) net.writers

pub few_matched : (net : Network) (r : ℕ) → length (matched_writers net r) ≤ net.writers
few_matched net r = omega (arith, length-filter_both (λ w. net.matched w r) (λ w. not (net.matched w r)) (λ x. refl) (range_with_len 0 net.writers), length-range_with_len 0 net.writers)

-- ── places
pub more_places : (net : Network) (old new : List (Option ℕ)) (place : ℕ) (x : Option ℕ) → length old ≡ place → new ≡ old ++ x ∷ [] → x ≡ capped net (place / 64) (place % 64)
    → ((n : ℕ) → n < place → get_or old n None ≡ capped net (n / 64) (n % 64)) → (n : ℕ) → n < place + 1 → get_or new n None ≡ capped net (n / 64) (n % 64)
more_places net old new place x size joined at before = below_more (λ n. get_or new n None ≡ capped net (n / 64) (n % 64)) place
    (λ n below. let within : n < length old = omega arith in ap (λ xs. get_or xs n None) joined ∙ get_or_append_left old (x ∷ []) None n within ∙ before n below)
    (ap (λ xs. get_or xs place None) joined ∙ get_or_push old x None place size ∙ at)

pub by_rows : (net : Network) (cells : List (Option ℕ)) (places readers : ℕ) → readers * 64 ≤ places
    → ((n : ℕ) → n < places → get_or cells n None ≡ capped net (n / 64) (n % 64)) → (r k : ℕ) → r < readers → k < 64 → get_or cells (r * 64 + k) None ≡ capped net r k
by_rows net cells places readers all each r k reader key =
    let row : (r * 64 + k) / 64 ≡ r = omega arith in
    let column : (r * 64 + k) % 64 ≡ k = omega arith in
    each (r * 64 + k) (omega arith) ∙ ap (λ i. capped net i ((r * 64 + k) % 64)) row ∙ ap (capped net r) column
