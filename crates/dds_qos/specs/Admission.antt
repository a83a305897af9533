-- Which samples a cache stores, and what it answers on a new one (DDS 1.4, 2.2.3.18 and 2.2.3.19).
use Rattle.std.specs.Prelude.{ℕ, Bool, true, false, not, ◌&&◌, List, [], ◌∷◌, ◌++◌, length, slice_index_or, Option, None, Some, if◌then◌else◌, nat_le}
use Rattle.std.specs.List.{remove}
use Rattle.std.specs.FinSet as set
use Rattle.dds_base.specs.declared.sample.Sample.{Sample}
use Rattle.dds_base.specs.declared.sample.Rejection.TheVariants.{InstancesLimit, SamplesLimit, SamplesPerInstanceLimit}
use Rattle.dds_qos.specs.declared.limits.ReaderLimits.{ReaderLimits}
use Rattle.dds_qos.specs.declared.admission.Admit.{Admit}
use Rattle.dds_qos.specs.declared.admission.Admit.TheVariants.{Stored, Overwrote, Rejected}
use Rattle.dds_qos.specs.Samples.{Keys, in_instance, first_of}

-- a finite limit is reached; an unlimited one never is
abbrev pub is_reached : Option ℕ → ℕ → Bool
is_reached None n = false
is_reached (Some limit) n = nat_le limit n

-- a key is new while all instances that a limit allows are known
abbrev pub is_one_too_many : Option ℕ → Keys → ℕ → Bool
is_one_too_many limit keys key = is_reached limit (set.len keys) && not (set.contains keys key)

-- what a cache answers on a sample, by its limits, its stored samples in order of admission, and its known keys: the first case that holds
abbrev pub admission : ReaderLimits → List Sample → Keys → Sample → Admit
admission limits stored keys s =
    if is_one_too_many limits.max_instances keys s.key then Rejected InstancesLimit
    else if is_reached limits.keep_last (in_instance s.key stored) then Overwrote (slice_index_or stored (first_of s.key stored) s)
    else if is_reached limits.max_samples (length stored) then Rejected SamplesLimit
    else if is_reached limits.max_samples_per_instance (in_instance s.key stored) then Rejected SamplesPerInstanceLimit
    else Stored

-- the stored samples after that answer
abbrev pub stored_after : Admit → List Sample → Sample → List Sample
stored_after Stored stored s = stored ++ s ∷ []
stored_after (Overwrote old) stored s = remove stored (first_of s.key stored) ++ s ∷ []
stored_after (Rejected why) stored s = stored

-- the known keys after that answer
abbrev pub keys_after : Admit → Keys → Sample → Keys
keys_after Stored keys s = set.insert keys s.key
keys_after (Overwrote old) keys s = set.insert keys s.key
keys_after (Rejected why) keys s = keys

abbrev pub is_rejected : Admit → Bool
is_rejected Stored = false
is_rejected (Overwrote old) = false
is_rejected (Rejected why) = true

abbrev pub is_overwrote : Admit → Bool
is_overwrote Stored = false
is_overwrote (Overwrote old) = true
is_overwrote (Rejected why) = false
