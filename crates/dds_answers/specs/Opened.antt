-- Which files were opened.
use Rattle.std.specs.Prelude.{◌≡◌, ◌≤◌, ℕ, List, length, take, ◌++◌, Option, Some, IfSome}

-- the paths that were asked for are the ones from before and then these from the first on, in order and each once, as far as it got
abbrev pub Opens : (old new : Option (List (List ℕ))) → List (List ℕ) → Type 0
Opens old new paths = IfSome old (λ before. (n : ℕ) × (n ≤ length paths) × (new ≡ Some (before ++ take n paths)))

-- all of these
abbrev pub OpensAll : (old new : Option (List (List ℕ))) → List (List ℕ) → Type 0
OpensAll old new paths = IfSome old (λ before. new ≡ Some (before ++ paths))
