-- A test that no element of a list passes.
use Rattle.std.proofs.Common.{◌≡◌, Bool, false, List, [], ◌∷◌, All}
use Rattle.std.specs.List.{list_any, AllByRecursion}
use Rattle.std.proofs.lemmas.List.Elements.{All-from_recursion}
use Rattle.dds_base.proofs.Bools.{neither}

none_pass_each : {A : Type 0} (p : A → Bool) (xs : List A) → list_any p xs ≡ false → AllByRecursion (λ x. p x ≡ false) xs
none_pass_each p [] e = tt
none_pass_each p (x ∷ xs) e = let two = neither (p x) (list_any p xs) e in (two.0, none_pass_each p xs two.1)

pub none_pass : {A : Type 0} (p : A → Bool) (xs : List A) → list_any p xs ≡ false → All (λ x. p x ≡ false) xs
none_pass p xs e = All-from_recursion (λ x. p x ≡ false) xs (none_pass_each p xs e)
