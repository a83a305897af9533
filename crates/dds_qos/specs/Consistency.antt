-- When the policies of one endpoint go together (OMG DDS 1.4, clauses 2.2.3.18 and 2.2.3.19).
use Rattle.std.specs.Prelude.{ℕ, Bool, false, Option, Some, None, nat_lt, if◌then◌else◌}
use Rattle.dds_qos.specs.declared.consistency.QosFault.{QosFault}
use Rattle.dds_qos.specs.declared.consistency.QosFault.TheVariants.{DepthOverLimit, SamplesUnderInstance}
use Rattle.dds_qos.specs.declared.policies.Policies.{Policies}
use Rattle.dds_qos.specs.Limits.{reader_limits_of}

-- the one is above the other, both being finite
abbrev pub is_above : Option ℕ → Option ℕ → Bool
is_above (Some n) (Some limit) = nat_lt limit n
is_above (Some n) None = false
is_above None limit = false

-- KEEP_LAST has a depth above max_samples_per_instance
abbrev pub is_depth_over : Policies → Bool
is_depth_over q = let limits = reader_limits_of q in is_above limits.keep_last limits.max_samples_per_instance

-- max_samples_per_instance is above max_samples
abbrev pub is_samples_under : Policies → Bool
is_samples_under q = let limits = reader_limits_of q in is_above limits.max_samples_per_instance limits.max_samples

-- the first fault of the policies of an endpoint, none where they go together
abbrev pub consistency_fault : Policies → Option QosFault
consistency_fault q =
    if is_depth_over q then Some DepthOverLimit else
    (if is_samples_under q then Some SamplesUnderInstance else None)
