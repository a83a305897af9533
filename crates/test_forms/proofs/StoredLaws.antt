-- The list of stored samples after an admission.
use Rattle.std.proofs.Common.{◌≡◌, ℕ, suc, ◌<◌, ◌≤◌, Bool, true, false, cond, List, [], ◌∷◌, ◌++◌, length, get_or, refl, sym, subst, arith, inl, inr}
use Rattle.std.specs.List.{All, remove, position_or_len}
use Rattle.std.specs.FinSet as set
use Rattle.std.proofs.lemmas.List.Quantifiers.{all_pairs_push, all_pairs_remove}
use Rattle.std.proofs.lemmas.List.Elements.{All-append, All-take, All-drop}
use Rattle.std.proofs.lemmas.Bool.{cases_lt, and_from, eq-eqb}
use Rattle.std.proofs.lemmas.List.Sums.{position_or_len_is}
use Rattle.std.proofs.lemmas.Grind.{common_steps}
use Rattle.dds_base.specs.declared.sample.Sample.{Sample}
use Rattle.dds_qos.specs.declared.admission.Admit.{Admit}
use Rattle.dds_qos.specs.declared.admission.Admit.TheVariants.{Stored, Overwrote, Rejected}
use Rattle.dds_qos.specs.Samples.{Keys, first_of, is_same, IsFresh}
use Rattle.dds_qos.specs.Admission.{stored_after, keys_after, is_rejected, is_overwrote}
use Rattle.test_forms.specs.Contents.{IsApart}

-- what stays of a list, at any place, stood in it
All-remove : (P : Sample → Type 0) (xs : List Sample) (n : ℕ) → All P xs → All P (remove xs n)
All-remove P xs n h = All-append P _ _ (All-take P n xs h) (All-drop P (suc n) xs h)

-- nothing stands past the end
remove_past : (xs : List Sample) (n : ℕ) → length xs ≤ n → remove xs n ≡ xs
remove_past xs n h = grind (arith, common_steps)

-- two samples differ in writer or number
abbrev Apart : Sample → Sample → Type 0
Apart x y = is_same y x ≡ false

-- what stays is apart
apart_remove : (xs : List Sample) (n : ℕ) → IsApart xs → IsApart (remove xs n)
apart_remove xs n apart = elim (cases_lt n (length xs)) [
  | inl within ↦ all_pairs_remove Apart xs n within apart
  | inr past ↦ rw (remove_past xs n past) apart
]

-- a fresh sample at the end leaves all apart
pub apart_after : (xs : List Sample) (x : Sample) (n : ℕ) (overwrites : Bool) → IsApart xs → IsFresh xs x → IsApart (cond overwrites (remove xs n) xs ++ x ∷ [])
apart_after xs x n false apart fresh = all_pairs_push Apart xs x apart fresh
apart_after xs x n true apart fresh =
    all_pairs_push Apart (remove xs n) x (apart_remove xs n apart) (All-remove (λ y. is_same x y ≡ false) xs n fresh)

-- the stored samples after a sample was stored
pub stored_as : (a : Admit) (xs : List Sample) (x : Sample) → is_rejected a ≡ false → stored_after a xs x ≡ cond (is_overwrote a) (remove xs (first_of x.key xs)) xs ++ x ∷ []
stored_as Stored xs x h = refl
stored_as (Overwrote old) xs x h = refl
stored_as (Rejected why) xs x h = cc

-- the known keys after a sample was stored
pub keys_as : (a : Admit) (ks : Keys) (x : Sample) → is_rejected a ≡ false → keys_after a ks x ≡ set.insert ks x.key
keys_as Stored ks x h = refl
keys_as (Overwrote old) ks x h = refl
keys_as (Rejected why) ks x h = cc

-- a sample has its own writer and number
same_itself : (x : Sample) → is_same x x ≡ true
same_itself x = and_from _ _ (eq-eqb x.writer x.writer refl) (eq-eqb x.sn x.sn refl)

-- a stored sample is found at its place
pub place_is : (xs : List Sample) (i : ℕ) (x : Sample) → IsApart xs → i < length xs → x ≡ get_or xs i x → position_or_len (is_same x) xs ≡ i
place_is xs i x apart within at =
    position_or_len_is (is_same x) xs i x (omega arith)
    (λ k below. subst (λ (y : Sample). is_same y (get_or xs k x) ≡ false) (sym at) (apart k i x below within))
    (λ _. subst (λ (y : Sample). is_same x y ≡ true) at (same_itself x))
