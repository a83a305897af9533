-- Which sample a cache overwrites: by KEEP_LAST the first of the key, which is there.
use Rattle.std.proofs.Common.{◌≡◌, inl, inr, ℕ, ◌≤◌, ◌<◌, Bool, true, false, cond, ◌==◌, List, [], ◌∷◌, length, Option, Some, None, refl, ◌∙◌, arith}
use Rattle.std.specs.Prelude.{count_by, slice_index_or}
use Rattle.std.specs.List.{position_or_len}
use Rattle.std.proofs.lemmas.Bool.{cases_Bool, leb-true}
use Rattle.dds_base.specs.declared.sample.Sample.{Sample}
use Rattle.dds_base.specs.declared.sample.Rejection.TheVariants.{InstancesLimit, SamplesLimit, SamplesPerInstanceLimit}
use Rattle.dds_qos.specs.declared.limits.ReaderLimits.{ReaderLimits}
use Rattle.dds_qos.specs.declared.admission.Admit.TheVariants.{Stored, Overwrote, Rejected}
use Rattle.dds_qos.specs.Samples.{Keys, in_instance, first_of}
use Rattle.dds_qos.specs.Admission.{admission, is_reached, is_one_too_many}
use Rattle.dds_match.specs.Network.{Network, IsNetwork}
use Rattle.dds_runs.proofs.StoredPlaces.{count_cons}

-- the first that passes is there where one passes
first_there : (p : Sample → Bool) (xs : List Sample) → 1 ≤ count_by p xs → position_or_len p xs < length xs
first_there p [] some = absurd (omega arith)
first_there p (x ∷ xs) some = elim (cases_Bool (p x)) [
  | inl e ↦ rw e (omega arith)
  | inr e ↦
      let count : count_by p (x ∷ xs) ≡ count_by p xs = count_cons p x xs ∙ rw e (omega arith) in
      let rest = first_there p xs (omega arith) in
      rw e (omega arith)
]

-- a sample is overwritten where the depth of KEEP_LAST is reached
depth_reached : (limits : ReaderLimits) (ss : List Sample) (keys : Keys) (s old : Sample) → admission limits ss keys s ≡ Overwrote old → is_reached limits.keep_last (in_instance s.key ss) ≡ true
depth_reached limits ss keys s old e = go (is_one_too_many limits.max_instances keys s.key) (is_reached limits.keep_last (in_instance s.key ss)) (is_reached limits.max_samples (length ss)) (is_reached limits.max_samples_per_instance (in_instance s.key ss)) e
  where
    o : Sample
    o = slice_index_or ss (first_of s.key ss) s

    go : (a b c d : Bool) → cond a (Rejected InstancesLimit) (cond b (Overwrote o) (cond c (Rejected SamplesLimit) (cond d (Rejected SamplesPerInstanceLimit) Stored))) ≡ Overwrote old → b ≡ true
    go true b c d e = absurd (cc)
    go false true c d e = refl
    go false false true d e = absurd (cc)
    go false false false true e = absurd (cc)
    go false false false false e = absurd (cc)

-- a depth that is reached is one of at least one sample
some_reached : (limit : Option ℕ) (n : ℕ) → ((d : ℕ) → limit ≡ Some d → 1 ≤ d) → is_reached limit n ≡ true → 1 ≤ n
some_reached None n depth e = absurd (let x : false ≡ true = e in cc)
some_reached (Some d) n depth e = let a = depth d refl in let b = leb-true d n e in omega arith

-- where a sample is overwritten, some stored sample has the key
pub overwritten_there : (net : Network) → IsNetwork net → (r : ℕ) (ss : List Sample) (keys : Keys) (s old : Sample) → admission (net.reader_limits r) ss keys s ≡ Overwrote old → first_of s.key ss < length ss
overwritten_there net known r ss keys s old e =
    first_there (λ t. t.key == s.key) ss (some_reached (net.reader_limits r).keep_last (in_instance s.key ss) (known.some_depth r) (depth_reached (net.reader_limits r) ss keys s old e))
