-- Lists that a loop fills, one element for each number or each element of another list.
use Rattle.std.proofs.Common.{◌≡◌, ℕ, ◌+◌, List, [], ◌∷◌, ◌++◌, map, take, slice_get, Some, sym, ap, ◌∙◌}
use Rattle.std.specs.List.{range_with_len}
use Rattle.std.proofs.lemmas.List.{take_more}
use Rattle.std.proofs.lemmas.Option.{get_or_from_slice_get, slice_get_within}
use Rattle.dds_base.proofs.Ranges.{range_push}
use Rattle.dds_base.proofs.Lists.{mapped_push}

-- one element more, for the next number
pub one_more : {A : Type 0} (f : ℕ → A) (xs new : List A) (n : ℕ) (x : A) → xs ≡ map f (range_with_len 0 n) → x ≡ f n → new ≡ xs ++ x ∷ []
    → new ≡ map f (range_with_len 0 (n + 1))
one_more f xs new n x before is joined =
    joined ∙ ap (λ ys. ys ++ x ∷ []) before ∙ ap (λ y. map f (range_with_len 0 n) ++ y ∷ []) is ∙ sym (ap (map f) (range_push n) ∙ mapped_push f (range_with_len 0 n) n)

-- one element more, which shows the next element of a list
pub one_more_shown : {A B : Type 0} (shown : B → A) (ys : List A) (xs new : List B) (n : ℕ) (x : B) (y : A) → slice_get ys n ≡ Some y → map shown xs ≡ take n ys → shown x ≡ y → new ≡ xs ++ x ∷ []
    → map shown new ≡ take (n + 1) ys
one_more_shown shown ys xs new n x y at before is joined =
    let within = slice_get_within ys n y at in
    let here = get_or_from_slice_get ys n y y at in
    ap (map shown) joined ∙ mapped_push shown xs x ∙ ap (λ zs. zs ++ shown x ∷ []) before ∙ ap (λ z. take n ys ++ z ∷ []) (is ∙ sym here) ∙ sym (take_more ys n y within)
