-- Lists that grow by what the next number or the next element gives.
use Rattle.std.proofs.Common.{ℕ, ◌≡◌, ◌+◌, ◌<◌, ◌≤◌, List, [], ◌∷◌, ◌++◌, All, Bool, true, false, if◌then◌else◌, flat_map, get_or, length, map, take, refl, sym, ap, ◌∙◌, subst, add-one, append-nil}
use Rattle.std.specs.List.{range_with_len}
use Rattle.std.proofs.Math.Seq.{take-suc}
use Rattle.std.proofs.lemmas.Grind.{flat_map-append}
use Rattle.std.proofs.lemmas.List.{map_push, take_all}
use Rattle.std.proofs.lemmas.List.Elements.{All-push}
use Rattle.dds_base.proofs.Ranges.{range_push}
use Rattle.dds_match.specs.Network.{Network}
use Rattle.dds_propose.specs.declared.targets.Target.{Target}
use Rattle.dds_search.specs.Sizes.{AreSizes, IsShownSize, every_target, key_target, key_targets}
use Rattle.dds_search.specs.declared.certificate.sizes.Size.{Size}

-- what the numbers below n + 1 give
more_below : {X : Type 0} (f : ℕ → List X) (n : ℕ) → flat_map f (range_with_len 0 (n + 1)) ≡ flat_map f (range_with_len 0 n) ++ f n
more_below f n = ap (flat_map f) (range_push n) ∙ (flat_map-append f (range_with_len 0 n) (n ∷ []) ∙ ap (λ xs. flat_map f (range_with_len 0 n) ++ xs) (append-nil (f n)))

-- what the next number gives is added
pub and_next : {X : Type 0} (f : ℕ → List X) (n : ℕ) (list new : List X) → list ≡ flat_map f (range_with_len 0 n) → new ≡ list ++ f n → new ≡ flat_map f (range_with_len 0 (n + 1))
and_next f n list new before after = after ∙ (ap (λ xs. xs ++ f n) before ∙ sym (more_below f n))

-- what passes is added
pub one_taken : {X : Type 0} (passes : Bool) (x y : X) (list new : List X) → passes ≡ true → y ≡ x → new ≡ list ++ y ∷ [] → new ≡ list ++ (if passes then x ∷ [] else [])
one_taken passes x y list new passing same added = rw passing (rw (← same) added)

-- what doesn't pass is not
pub none_taken : {X : Type 0} (passes : Bool) (x : X) (list : List X) → passes ≡ false → list ≡ list ++ (if passes then x ∷ [] else [])
none_taken passes x list failing = rw failing (sym (append-nil list))

-- all keys of a reader
pub all_keys : (net : Network) (r n : ℕ) → n ≡ net.keys → flat_map (key_target net r) (range_with_len 0 n) ≡ key_targets net r
unfolding key_targets
all_keys net r n all = ap (λ m. flat_map (key_target net r) (range_with_len 0 m)) all

-- the sizes so far are of the first so many targets, each of them shown
abbrev pub AreFirst : Network → List Target → ℕ → List Size → Type 0
AreFirst net targets i sizes = (map (λ size. size.target) sizes ≡ take i targets) × All (IsShownSize net) sizes

-- the size of the next target is added
pub next_size : (net : Network) (targets : List Target) (i : ℕ) (t : Target) (old new : List Size) (size : Size) → i < length targets → t ≡ get_or targets i t → AreFirst net targets i old
    → new ≡ old ++ size ∷ [] → size.target ≡ t → IsShownSize net size → AreFirst net targets (i + 1) new
next_size net targets i t old new size lt at before added same shown = (
  ap (map (λ x. x.target)) added ∙ (map_push (λ x. x.target) old size ∙ ((λ j. before.0 j ++ (same ∙ at) j ∷ []) ∙ sym (rw (add-one, take-suc targets i t lt) refl))),
  subst (All (IsShownSize net)) (sym added) (All-push (IsShownSize net) old size before.1 shown),
)

-- with the last target they are those of all
pub last_size : (net : Network) (targets : List Target) (i : ℕ) (sizes : List Size) → length targets ≤ i → targets ≡ every_target net → AreFirst net targets i sizes → AreSizes net sizes
last_size net targets i sizes all are first = (first.0 ∙ (take_all i targets all ∙ are), first.1)
