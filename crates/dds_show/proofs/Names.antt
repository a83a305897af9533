-- Names with commas between them.
use Rattle.std.proofs.Common.{ℕ, ◌≡◌, ◌+◌, ◌<◌, List, [], ◌∷◌, ◌++◌, Bool, filter, get_or, length, map, take, refl, sym, ap, ◌∙◌, add-one}
use Rattle.std.specs.List.{join_by}
use Rattle.std.proofs.Math.Seq.{take-suc}
use Rattle.std.proofs.lemmas.List.{map-append}
use Rattle.std.proofs.lemmas.List.Elements.{filter-append}
use Rattle.std.proofs.lemmas.List.Folds.{flat_map-map}

texts_joined : {X : Type 0} (f : X → List ℕ) (comma : List ℕ) (xs : List X) → join_by f comma xs ≡ join_by (λ text. text) comma (map f xs)
texts_joined f comma [] = refl
texts_joined f comma (x ∷ xs) = ap (λ rest. f x ++ rest) (sym (flat_map-map (λ text. comma ++ text) f xs))

-- things with the same texts are joined to the same text
pub same_joined : {X Y : Type 0} (f : X → List ℕ) (g : Y → List ℕ) (comma : List ℕ) (xs : List X) (ys : List Y) → map f xs ≡ map g ys → join_by f comma xs ≡ join_by g comma ys
same_joined f g comma xs ys same = texts_joined f comma xs ∙ (ap (join_by (λ text. text) comma) same ∙ sym (texts_joined g comma ys))

-- one more thing, if it passes
pub one_more_name : {X : Type 0} (name : X → List ℕ) (test : X → Bool) (xs : List X) (i : ℕ) (x : X) (old new : List (List ℕ)) → i < length xs → x ≡ get_or xs i x
    → old ≡ map name (filter test (take i xs)) → new ≡ old ++ map name (filter test (x ∷ [])) → new ≡ map name (filter test (take (i + 1) xs))
one_more_name name test xs i x old new lt at before after =
    after ∙ (ap (λ names. names ++ map name (filter test (x ∷ []))) before
    ∙ (sym (map-append name (filter test (take i xs)) (filter test (x ∷ [])))
    ∙ (ap (map name) (sym (filter-append test (take i xs) (x ∷ []))) ∙ rw (add-one, take-suc xs i x lt, ← at) refl)))
