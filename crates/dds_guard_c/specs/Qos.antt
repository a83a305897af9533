-- What a deployment says of an endpoint's QoS, as C has it.
use Rattle.std.specs.Prelude.{◌≡◌, ℕ, List, Option, Some, None, Ok, Err, slice_get}
use Rattle.dds_qos.specs.declared.policies.Durability.{Durability}
use Rattle.dds_qos.specs.declared.policies.Durability.TheVariants.{Volatile, TransientLocal, Transient, Persistent}
use Rattle.dds_qos.specs.declared.policies.HistoryKind.{HistoryKind}
use Rattle.dds_qos.specs.declared.policies.HistoryKind.TheVariants.{KeepLast, KeepAll}
use Rattle.dds_qos.specs.declared.policies.Policies.{Policies}
use Rattle.dds_qos.specs.declared.policies.Reliability.{Reliability}
use Rattle.dds_qos.specs.declared.policies.Reliability.TheVariants.{BestEffort, Reliable}
use Rattle.dds_fields.specs.declared.fault.FaultKind.{FaultKind}
use Rattle.dds_lists.specs.Lists.{Lists, Reader, Writer}
use Rattle.dds_deploy.specs.Document.{read}
use Rattle.dds_guard_c.specs.declared.qos.Qos.{Qos}

-- the numbers of the kinds, as DDS lists them
abbrev pub durability_number : Durability → ℕ
durability_number Volatile = 0
durability_number TransientLocal = 1
durability_number Transient = 2
durability_number Persistent = 3

abbrev pub reliability_number : Reliability → ℕ
reliability_number BestEffort = 0
reliability_number Reliable = 1

abbrev pub history_number : HistoryKind → ℕ
history_number KeepLast = 0
history_number KeepAll = 1

-- KEEP_ALL has no depth
abbrev pub depth_of : HistoryKind → ℕ → ℕ
depth_of KeepLast depth = depth
depth_of KeepAll depth = 0

-- a limit is at least 1, so 0 stands for none
abbrev pub limit_number : Option ℕ → ℕ
limit_number None = 0
limit_number (Some n) = n

abbrev pub qos_of : Policies → Qos
qos_of q = record {
  durability = durability_number q.durability;
  reliability = reliability_number q.reliability;
  history = history_number q.history.kind;
  depth = depth_of q.history.kind q.history.depth;
  max_samples = limit_number q.resource_limits.max_samples;
  max_instances = limit_number q.resource_limits.max_instances;
  max_samples_per_instance = limit_number q.resource_limits.max_samples_per_instance;
}

abbrev pub offered_by : Option Writer → Option Qos
offered_by None = None
offered_by (Some w) = Some (qos_of w.qos.offered)

abbrev pub requested_by : Option Reader → Option Qos
requested_by None = None
requested_by (Some r) = Some (qos_of r.qos.requested)

-- the QoS of the writer, or the reader, of this number, if there is one
abbrev pub writer_qos : Lists → ℕ → Option Qos
writer_qos d w = offered_by (slice_get d.writers.entries w)

abbrev pub reader_qos : Lists → ℕ → Option Qos
reader_qos d r = requested_by (slice_get d.readers.entries r)

-- the bytes are a deployment of which this is found
pub record IsFound (find : Lists → Option Qos) (bytes : List ℕ) (found : Option Qos) : Type 0 where
  pub lists : Lists
  pub reads : read bytes ≡ Ok lists
  pub finds : find lists ≡ found

-- the bytes are no deployment
abbrev pub IsFaulty : List ℕ → Type 0
IsFaulty bytes = (kind : FaultKind) × (path : List ℕ) × (read bytes ≡ Err (kind, path))

-- the bytes are this deployment
abbrev pub ReadsAs : List ℕ → Lists → Type 0
ReadsAs bytes d = read bytes ≡ Ok d
