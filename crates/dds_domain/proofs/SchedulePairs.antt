-- The first of a participant's endpoints, or of those that match one, for which something is there, as a loop over a plan's list finds it.
use Rattle.std.proofs.Common.{◌≡◌, ℕ, zero, suc, ◌+◌, ◌<◌, ◌≤◌, Bool, true, false, cond, List, [], ◌∷◌, ◌++◌, drop, filter, get_or, length, Option, Some, None, refl, sym, ap, subst, ◌∙◌, add-one}
use Rattle.std.specs.Prelude.{◌==◌, slice_get}
use Rattle.std.specs.List.{range_with_len}
use Rattle.std.specs.Option.{option_map_or}
use Rattle.std.proofs.lemmas.Bool.{false≢true}
use Rattle.std.proofs.lemmas.List.{at_drop_all, at_drop_more}
use Rattle.std.proofs.lemmas.List.Elements.{filter_passes}
use Rattle.std.proofs.lemmas.Option.{slice_get_within}
use Rattle.dds_base.proofs.Lists.{kept_push}
use Rattle.dds_lists.specs.Lists.{Lists, Reader}
use Rattle.dds_match.specs.Plan.{is_reader_of}
use Rattle.dds_runs.specs.First.{◌orElse◌, first_below}

-- a participant's reader is there
pub reader_is_there : (d : Lists) (p r : ℕ) → is_reader_of d p r ≡ true → r < length d.readers.entries
reader_is_there d p r own = go (slice_get d.readers.entries r) refl own
  where
    go : (o : Option Reader) → slice_get d.readers.entries r ≡ o → option_map_or (λ (x : Reader). x.participant == p) o false ≡ true → r < length d.readers.entries
    go None at own = absurd (false≢true own)
    go (Some x) at own = slice_get_within d.readers.entries r x at

module _ {A : Type 0} where
  -- the first that is there of what the elements of a list give
  abbrev pub first_of : (ℕ → Option A) → List ℕ → Option A
  first_of gives [] = None
  first_of gives (x ∷ xs) = gives x orElse first_of gives xs

  orElse_assoc : (o p q : Option A) → ((o orElse p) orElse q) ≡ (o orElse (p orElse q))
  orElse_assoc None p q = refl
  orElse_assoc (Some x) p q = refl

  orElse_last : (o : Option A) → (o orElse None) ≡ o
  orElse_last None = refl
  orElse_last (Some x) = refl

  first_of-append : (gives : ℕ → Option A) (xs ys : List ℕ) → first_of gives (xs ++ ys) ≡ (first_of gives xs orElse first_of gives ys)
  first_of-append gives [] ys = refl
  first_of-append gives (x ∷ xs) ys = ap (λ o. gives x orElse o) (first_of-append gives xs ys) ∙ sym (orElse_assoc (gives x) (first_of gives xs) (first_of gives ys))

-- ── numbers below a bound, of which those that pass may give something
-- an element of the list of those that pass does
pub listed_passes : (passes : ℕ → Bool) (n : ℕ) (xs : List ℕ) (i x : ℕ) → xs ≡ filter passes (range_with_len 0 n) → i < length xs → x ≡ get_or xs i x → passes x ≡ true
listed_passes passes n xs i x listed within here =
    subst (λ y. passes y ≡ true) (sym here) (subst (λ ys. (k d : ℕ) → k < length ys → passes (get_or ys k d) ≡ true) (sym listed) (filter_passes passes (range_with_len 0 n)) i x within)

module _ {A : Type 0} (passes : ℕ → Bool) (gives : ℕ → Option A) where
  abbrev pub where_passes : ℕ → Option A
  where_passes i = cond (passes i) (gives i) None

  of_one : (i : ℕ) → first_of gives (filter passes (i ∷ [])) ≡ where_passes i
  of_one i = go (passes i)
    where
      go : (b : Bool) → first_of gives (cond b (i ∷ []) []) ≡ cond b (gives i) None
      go true = orElse_last (gives i)
      go false = refl

  -- the first of that list is the first of all
  pub first_listed : (n : ℕ) → first_of gives (filter passes (range_with_len 0 n)) ≡ first_below n where_passes
  unfolding first_below
  first_listed zero = refl
  first_listed (suc n) =
      ap (λ m. first_of gives (filter passes (range_with_len 0 m))) (sym (add-one n))
      ∙ ap (first_of gives) (kept_push passes n)
      ∙ first_of-append gives (filter passes (range_with_len 0 n)) (filter passes (n ∷ []))
      ∙ ap (λ o. o orElse first_of gives (filter passes (n ∷ []))) (first_listed n)
      ∙ ap (λ o. first_below n where_passes orElse o) (of_one n)

-- ── a loop over a list, by what is left of it
module _ {A : Type 0} (gives : ℕ → Option A) (xs : List ℕ) (i : ℕ) (first : Option A) (left : first_of gives (drop i xs) ≡ first) where
  -- it stops at the first that is there
  pub listed_found : (x : ℕ) (e : A) → i < length xs → x ≡ get_or xs i x → Some e ≡ gives x → Some e ≡ first
  listed_found x e within here found =
      ap (λ o. o orElse first_of gives (drop (i + 1) xs)) (found ∙ ap gives here) ∙ sym (at_drop_more (first_of gives) xs i x within) ∙ left

  -- it goes on where nothing is there
  pub listed_next : (x : ℕ) → i < length xs → x ≡ get_or xs i x → None ≡ gives x → first_of gives (drop (i + 1) xs) ≡ first
  listed_next x within here nothing =
      ap (λ o. o orElse first_of gives (drop (i + 1) xs)) (nothing ∙ ap gives here) ∙ sym (at_drop_more (first_of gives) xs i x within) ∙ left

  -- it comes to the end
  pub listed_none : length xs ≤ i → None ≡ first
  listed_none past = sym (at_drop_all (first_of gives) xs i past) ∙ left
