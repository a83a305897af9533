-- The list of stored samples after an admission.
use Rattle.std.proofs.Common.{◌≡◌, ℕ, suc, Bool, true, false, cond, List, [], ◌∷◌, ◌++◌, refl}
use Rattle.std.specs.List.{All, remove}
use Rattle.std.specs.FinSet as set
use Rattle.std.proofs.lemmas.List.Elements.{All-append, All-take, All-drop, All-cons, All-nil}
use Rattle.dds_base.specs.declared.sample.Sample.{Sample}
use Rattle.dds_qos.specs.declared.admission.Admit.{Admit}
use Rattle.dds_qos.specs.declared.admission.Admit.TheVariants.{Stored, Overwrote, Rejected}
use Rattle.dds_qos.specs.Samples.{Keys, first_of}
use Rattle.dds_qos.specs.Admission.{stored_after, keys_after, is_rejected, is_overwrote}

-- what stays of a list, at any place, stood in it
pub All-remove : (P : Sample → Type 0) (xs : List Sample) (n : ℕ) → All P xs → All P (remove xs n)
All-remove P xs n h = All-append P _ _ (All-take P n xs h) (All-drop P (suc n) xs h)

-- what holds of the stored samples and of a new one holds after it was stored
pub All-stored : (P : Sample → Type 0) (xs : List Sample) (x : Sample) (n : ℕ) (overwrites : Bool) → All P xs → P x
    → All P (cond overwrites (remove xs n) xs ++ x ∷ [])
All-stored P xs x n false all own = All-append P xs (x ∷ []) all (All-cons P x [] own (All-nil P))
All-stored P xs x n true all own = All-append P (remove xs n) (x ∷ []) (All-remove P xs n all) (All-cons P x [] own (All-nil P))

-- the stored samples after a sample was stored
pub stored_as : (a : Admit) (xs : List Sample) (x : Sample) → is_rejected a ≡ false
    → stored_after a xs x ≡ cond (is_overwrote a) (remove xs (first_of x.key xs)) xs ++ x ∷ []
stored_as Stored xs x h = refl
stored_as (Overwrote old) xs x h = refl
stored_as (Rejected why) xs x h = cc

-- the known keys after a sample was stored
pub keys_as : (a : Admit) (ks : Keys) (x : Sample) → is_rejected a ≡ false → keys_after a ks x ≡ set.insert ks x.key
keys_as Stored ks x h = refl
keys_as (Overwrote old) ks x h = refl
keys_as (Rejected why) ks x h = cc
