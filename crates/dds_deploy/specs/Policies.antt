-- The policy fields of an endpoint, in the order in which they are read.
use Rattle.std.specs.Prelude.{codes, ℕ, Bool, false, List, [], ◌∷◌, ◌++◌, length, nat_le, ◌&&◌, ◌||◌, ◌==◌, Option, Some, None, Ok, is_none}
use Rattle.std.specs.List.{list_all}
use Rattle.toml.specs.Data.{Data, Members}
use Rattle.dds_base.specs.Limits.{most_name_bytes}
use Rattle.dds_base.specs.Names.{is_name_byte}
use Rattle.dds_fields.specs.declared.fault.FaultKind.TheVariants.{BadName, Qos}
use Rattle.dds_fields.specs.Reading.{Read, ◌>>=◌, unless, optional, a_text, a_number, a_list_of}
use Rattle.dds_fields.specs.Words.{a_word, a_flag, a_duration, a_limit}
use Rattle.dds_qos.specs.Consistency.{consistency_fault}
use Rattle.dds_qos.specs.declared.policies.Durability.{Durability}
use Rattle.dds_qos.specs.declared.policies.Durability.TheVariants.{Volatile, TransientLocal, Transient, Persistent}
use Rattle.dds_qos.specs.declared.policies.AccessScope.{AccessScope}
use Rattle.dds_qos.specs.declared.policies.AccessScope.TheVariants.{Instance, Topic, Group}
use Rattle.dds_qos.specs.declared.policies.Presentation.{Presentation}
use Rattle.dds_qos.specs.declared.policies.Duration.{Duration}
use Rattle.dds_qos.specs.declared.policies.Duration.TheVariants.{Nanoseconds, Infinite}
use Rattle.dds_qos.specs.declared.policies.Ownership.{Ownership}
use Rattle.dds_qos.specs.declared.policies.Ownership.TheVariants.{Shared, Exclusive}
use Rattle.dds_qos.specs.declared.policies.LivelinessKind.{LivelinessKind}
use Rattle.dds_qos.specs.declared.policies.LivelinessKind.TheVariants.{Automatic, ManualByParticipant, ManualByTopic}
use Rattle.dds_qos.specs.declared.policies.Liveliness.{Liveliness}
use Rattle.dds_qos.specs.declared.policies.Reliability.{Reliability}
use Rattle.dds_qos.specs.declared.policies.Reliability.TheVariants.{BestEffort, Reliable}
use Rattle.dds_qos.specs.declared.policies.DestinationOrder.{DestinationOrder}
use Rattle.dds_qos.specs.declared.policies.DestinationOrder.TheVariants.{ByReceptionTimestamp, BySourceTimestamp}
use Rattle.dds_qos.specs.declared.policies.HistoryKind.{HistoryKind}
use Rattle.dds_qos.specs.declared.policies.HistoryKind.TheVariants.{KeepLast, KeepAll}
use Rattle.dds_qos.specs.declared.policies.History.{History}
use Rattle.dds_qos.specs.declared.policies.ResourceLimits.{ResourceLimits}
use Rattle.dds_qos.specs.declared.policies.Policies.{Policies}

unfoldable pub durability : List ℕ → Members → Read Durability
durability path ms = optional (codes "durability") Volatile (a_word ((codes "VOLATILE", Volatile) ∷ (codes "TRANSIENT_LOCAL", TransientLocal) ∷ (codes "TRANSIENT", Transient) ∷ (codes "PERSISTENT", Persistent) ∷ [])) path ms

unfoldable pub access_scope : List ℕ → Members → Read AccessScope
access_scope path ms = optional (codes "access_scope") Instance (a_word ((codes "INSTANCE", Instance) ∷ (codes "TOPIC", Topic) ∷ (codes "GROUP", Group) ∷ [])) path ms

unfoldable pub coherent : List ℕ → Members → Read Bool
coherent path ms = optional (codes "coherent") false a_flag path ms

unfoldable pub ordered : List ℕ → Members → Read Bool
ordered path ms = optional (codes "ordered") false a_flag path ms

unfoldable pub presentation : List ℕ → Members → Read Presentation
presentation path ms = do
  the_scope ← access_scope path ms
  the_coherent ← coherent path ms
  the_ordered ← ordered path ms
  Ok (record { access_scope = the_scope; coherent = the_coherent; ordered = the_ordered })

-- none is infinite
abbrev pub duration_of : Option ℕ → Duration
duration_of None = Infinite
duration_of (Some n) = Nanoseconds n

-- a length of time in nanoseconds, or "infinite"
unfoldable pub duration : List ℕ → Option ℕ → List ℕ → Members → Read Duration
duration key absent path ms = do
  n ← optional key absent a_duration path ms
  Ok (duration_of n)

unfoldable pub deadline : List ℕ → Members → Read Duration
deadline path ms = duration (codes "deadline") None path ms

unfoldable pub latency_budget : List ℕ → Members → Read Duration
latency_budget path ms = duration (codes "latency_budget") (Some 0) path ms

unfoldable pub ownership : List ℕ → Members → Read Ownership
ownership path ms = optional (codes "ownership") Shared (a_word ((codes "SHARED", Shared) ∷ (codes "EXCLUSIVE", Exclusive) ∷ [])) path ms

unfoldable pub liveliness_kind : List ℕ → Members → Read LivelinessKind
liveliness_kind path ms = optional (codes "liveliness") Automatic (a_word ((codes "AUTOMATIC", Automatic) ∷ (codes "MANUAL_BY_PARTICIPANT", ManualByParticipant) ∷ (codes "MANUAL_BY_TOPIC", ManualByTopic) ∷ [])) path ms

unfoldable pub lease : List ℕ → Members → Read Duration
lease path ms = duration (codes "lease") None path ms

unfoldable pub liveliness : List ℕ → Members → Read Liveliness
liveliness path ms = do
  the_kind ← liveliness_kind path ms
  the_lease ← lease path ms
  Ok (record { kind = the_kind; lease = the_lease })

unfoldable pub reliability : Reliability → List ℕ → Members → Read Reliability
reliability absent path ms = optional (codes "reliability") absent (a_word ((codes "BEST_EFFORT", BestEffort) ∷ (codes "RELIABLE", Reliable) ∷ [])) path ms

unfoldable pub destination_order : List ℕ → Members → Read DestinationOrder
destination_order path ms = optional (codes "destination_order") ByReceptionTimestamp (a_word ((codes "BY_RECEPTION_TIMESTAMP", ByReceptionTimestamp) ∷ (codes "BY_SOURCE_TIMESTAMP", BySourceTimestamp) ∷ [])) path ms

unfoldable pub history_kind : List ℕ → Members → Read HistoryKind
history_kind path ms = optional (codes "history") KeepLast (a_word ((codes "KEEP_LAST", KeepLast) ∷ (codes "KEEP_ALL", KeepAll) ∷ [])) path ms

unfoldable pub depth : List ℕ → Members → Read ℕ
depth path ms = optional (codes "depth") 1 (a_number 1 2147483647) path ms

unfoldable pub history : List ℕ → Members → Read History
history path ms = do
  the_kind ← history_kind path ms
  the_depth ← depth path ms
  Ok (record { kind = the_kind; depth = the_depth })

unfoldable pub max_samples : List ℕ → Members → Read (Option ℕ)
max_samples path ms = optional (codes "max_samples") None a_limit path ms

unfoldable pub max_instances : List ℕ → Members → Read (Option ℕ)
max_instances path ms = optional (codes "max_instances") None a_limit path ms

unfoldable pub max_samples_per_instance : List ℕ → Members → Read (Option ℕ)
max_samples_per_instance path ms = optional (codes "max_samples_per_instance") None a_limit path ms

unfoldable pub resource_limits : List ℕ → Members → Read ResourceLimits
resource_limits path ms = do
  the_samples ← max_samples path ms
  the_instances ← max_instances path ms
  the_per_instance ← max_samples_per_instance path ms
  Ok (record { max_samples = the_samples; max_instances = the_instances; max_samples_per_instance = the_per_instance })

-- what is said of the past and of time
unfoldable pub timing : List ℕ → Members → Read (Durability × Presentation × Duration × Duration)
timing path ms = do
  the_durability ← durability path ms
  the_presentation ← presentation path ms
  the_deadline ← deadline path ms
  the_latency_budget ← latency_budget path ms
  Ok (the_durability, the_presentation, the_deadline, the_latency_budget)

-- what is said of who writes and how samples come
unfoldable pub delivery : Reliability → List ℕ → Members → Read (Ownership × Liveliness × Reliability × DestinationOrder)
delivery absent path ms = do
  the_ownership ← ownership path ms
  the_liveliness ← liveliness path ms
  the_reliability ← reliability absent path ms
  the_order ← destination_order path ms
  Ok (the_ownership, the_liveliness, the_reliability, the_order)

-- all policies but the partitions, with this reliability where none is named
unfoldable pub policies : Reliability → List ℕ → Members → Read Policies
policies absent path ms = do
  t ← timing path ms
  d ← delivery absent path ms
  h ← history path ms
  l ← resource_limits path ms
  Ok (record {
    durability = t.0;
    presentation = t.1;
    deadline = t.2;
    latency_budget = t.3;
    ownership = d.0;
    liveliness = d.1;
    reliability = d.2;
    destination_order = d.3;
    history = h;
    resource_limits = l;
  })

-- a byte of a name, `*` or `?`
abbrev pub is_partition_byte : ℕ → Bool
is_partition_byte b = is_name_byte b || (b == 42 || b == 63)

-- 0 to 64 bytes of the alphabet of partition names
abbrev pub is_partition_name : List ℕ → Bool
is_partition_name bytes = nat_le (length bytes) most_name_bytes && list_all is_partition_byte bytes

-- one more name of a partition. Names may repeat
unfoldable pub partition : List (List ℕ) → List ℕ → Data → Read (List (List ℕ))
partition before path d = do
  text ← a_text path d
  unless BadName path (is_partition_name text) (before ++ text ∷ [])

abbrev pub partition_list : List ℕ → Data → Read (List (List ℕ))
partition_list = a_list_of 16 partition []

unfoldable pub partitions : List ℕ → Members → Read (List (List ℕ))
partitions path ms = optional (codes "partitions") [] partition_list path ms

-- the keys of the policy fields
abbrev pub policy_keys : List (List ℕ)
policy_keys =
    codes "durability" ∷ codes "access_scope" ∷ codes "coherent" ∷ codes "ordered" ∷ codes "deadline" ∷ codes "latency_budget" ∷ codes "ownership"
    ∷ codes "liveliness" ∷ codes "lease" ∷ codes "reliability" ∷ codes "destination_order" ∷ codes "history" ∷ codes "depth" ∷ codes "max_samples"
    ∷ codes "max_instances" ∷ codes "max_samples_per_instance" ∷ codes "partitions" ∷ []

-- the keys of a writer. A reader has `filter` too
abbrev pub endpoint_keys : List (List ℕ)
endpoint_keys = codes "name" ∷ codes "participant" ∷ codes "topic" ∷ policy_keys

-- the fields of an endpoint, whose policies have to be consistent
unfoldable pub consistent : {X : Type 0} → (X → Policies) → (List ℕ → Members → Read X) → List ℕ → Members → Read X
consistent policies_of fields path ms = do
  x ← fields path ms
  unless Qos path (is_none (consistency_fault (policies_of x))) x
