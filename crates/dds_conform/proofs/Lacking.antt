-- What one rule more lacks.
use Rattle.std.proofs.Common.{◌≡◌, ℕ, ◌+◌, List, [], ◌∷◌, ◌++◌, append-nil, flat_map, sym, ap, ◌∙◌}
use Rattle.std.specs.List.{range_with_len}
use Rattle.std.proofs.lemmas.Grind.{flat_map-append}
use Rattle.dds_base.proofs.Ranges.{range_push}

-- what is gathered over the numbers below one more
pub one_more_rule : {A : Type 0} (f : ℕ → List A) (old new : List A) (n u : ℕ) → old ≡ flat_map f (range_with_len 0 n) → u ≡ n → new ≡ old ++ f u → new ≡ flat_map f (range_with_len 0 (n + 1))
one_more_rule f old new n u before same after =
    after ∙ ap (λ xs. xs ++ f u) before ∙ ap (λ m. flat_map f (range_with_len 0 n) ++ f m) same
    ∙ ap (λ xs. flat_map f (range_with_len 0 n) ++ xs) (sym (append-nil (f n)))
    ∙ sym (ap (flat_map f) (range_push n) ∙ flat_map-append f (range_with_len 0 n) (n ∷ []))
