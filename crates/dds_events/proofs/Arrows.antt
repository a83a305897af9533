-- What stands before the first arrow of a line.
use Rattle.std.proofs.Common.{◌≡◌, ◌<◌, ◌≤◌, ℕ, zero, suc, true, false, nat_eq, List, [], ◌∷◌, ◌++◌, codes, length, take, drop, refl, sym, ap, arith}
use Rattle.std.specs.List.{starts_with}
use Rattle.std.specs.Str.Pattern.{LacksTextAt}
use Rattle.std.proofs.lemmas.Str.Pattern.{starts_text}
use Rattle.dds_events.specs.Reading.{before_arrow}

abbrev arrow : List ℕ
arrow = codes " -> "

at_front : (bs rest : List ℕ) → bs ≡ arrow ++ rest → starts_with nat_eq bs arrow ≡ true
at_front bs rest is = rw is refl

not_at_front : (bs : List ℕ) → LacksTextAt arrow bs 0 → starts_with nat_eq bs arrow ≡ false
not_at_front bs lacks = sym (starts_text false arrow bs lacks)

-- a text that is cut at its first arrow
pub cut_before : (bs : List ℕ) (i : ℕ) (rest : List ℕ) → ((k : ℕ) → k < i → LacksTextAt (codes " -> ") bs k) → drop i bs ≡ codes " -> " ++ rest → take i bs ≡ before_arrow bs
unfolding before_arrow
cut_before [] zero rest lacks is = refl
cut_before [] (suc i) rest lacks is = refl
cut_before (b ∷ bs) zero rest lacks is = rw (at_front (b ∷ bs) rest is) refl
cut_before (b ∷ bs) (suc i) rest lacks is =
    rw (not_at_front (b ∷ bs) (lacks 0 (omega arith))) (ap (λ xs. b ∷ xs) (cut_before bs i rest (λ k lt. lacks (suc k) (omega arith)) is))

-- a text with no arrow
pub uncut : (bs : List ℕ) → ((k : ℕ) → k ≤ length bs → LacksTextAt (codes " -> ") bs k) → bs ≡ before_arrow bs
unfolding before_arrow
uncut [] lacks = refl
uncut (b ∷ bs) lacks = rw (not_at_front (b ∷ bs) (lacks 0 (omega arith))) (ap (λ xs. b ∷ xs) (uncut bs (λ k lt. lacks (suc k) (omega arith))))
