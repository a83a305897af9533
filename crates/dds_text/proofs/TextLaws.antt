-- Texts and other things of numbers in a row, and the item at a place of a list.
use Rattle.std.proofs.Common.{ℕ, ◌≡◌, ◌+◌, ◌<◌, List, [], ◌∷◌, ◌++◌, flat_map, get_or, length, slice_get, take, Some, refl, sym, ap, ◌∙◌, add-one, append-nil, append_assoc}
use Rattle.std.specs.List.{range_with_len}
use Rattle.std.specs.Option.{option_map_or}
use Rattle.std.proofs.Math.Seq.{take-suc}
use Rattle.std.proofs.lemmas.Grind.{flat_map-append}
use Rattle.std.proofs.lemmas.List.{flat_map_more}
use Rattle.dds_base.proofs.Ranges.{range_push}
use Rattle.dds_text.specs.Texts.{each_below}

those_more : {X : Type 0} (f : ℕ → List X) (n : ℕ) → flat_map f (range_with_len 0 (n + 1)) ≡ flat_map f (range_with_len 0 n) ++ f n
those_more f n = ap (flat_map f) (range_push n) ∙ (flat_map-append f (range_with_len 0 n) (n ∷ []) ∙ ap (λ xs. flat_map f (range_with_len 0 n) ++ xs) (append-nil (f n)))

-- those of the next number are added
pub and_those : {X : Type 0} (f : ℕ → List X) (n : ℕ) (old found new : List X) → found ≡ old ++ flat_map f (range_with_len 0 n) → new ≡ found ++ f n
    → new ≡ old ++ flat_map f (range_with_len 0 (n + 1))
and_those f n old found new before after =
    after ∙ (ap (λ xs. xs ++ f n) before ∙ (append_assoc old (flat_map f (range_with_len 0 n)) (f n) ∙ ap (λ xs. old ++ xs) (sym (those_more f n))))

-- the text of the next number is added
pub and_next : (f : ℕ → List ℕ) (n : ℕ) (old text new : List ℕ) → text ≡ old ++ each_below n f → new ≡ text ++ f n → new ≡ old ++ each_below (n + 1) f
and_next f n old text new before after = and_those f n old text new before after

-- the text of the next element is added
pub and_element : {X : Type 0} (f : X → List ℕ) (xs : List X) (i : ℕ) (x : X) (old text line new : List ℕ) → i < length xs → x ≡ get_or xs i x →
    text ≡ old ++ flat_map f (take i xs) → line ≡ f x → new ≡ text ++ line → new ≡ old ++ flat_map f (take (i + 1) xs)
and_element f xs i x old text line new lt at before is after =
    after ∙ (rw (before, is) (flat_map_more f old (take i xs) x ∙ rw (add-one, take-suc xs i x lt, ← at) refl))

-- the text of what is at a place
pub item_here : {X : Type 0} (f : X → List ℕ) (xs : List X) (i : ℕ) (x : X) → slice_get xs i ≡ Some x → f x ≡ option_map_or f (slice_get xs i) []
item_here f xs i x is = rw is refl

-- the text of the next number is added
pub and_text : (f : ℕ → List ℕ) (n : ℕ) (text next bytes new : List ℕ) → text ≡ each_below n f → next ≡ f n → bytes ≡ next → new ≡ text ++ bytes → new ≡ each_below (n + 1) f
and_text f n text next bytes new before is same after = and_next f n [] text new before (after ∙ ap (λ xs. text ++ xs) (same ∙ is))
