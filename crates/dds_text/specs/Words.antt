-- The words of policies, as a deployment file has them.
use Rattle.std.specs.Prelude.{ℕ, List, Bool, codes, if◌then◌else◌}
use Rattle.dds_qos.specs.declared.policies.Durability.{Durability}
use Rattle.dds_qos.specs.declared.policies.Durability.TheVariants.{Volatile, TransientLocal, Transient, Persistent}
use Rattle.dds_qos.specs.declared.policies.AccessScope.{AccessScope}
use Rattle.dds_qos.specs.declared.policies.AccessScope.TheVariants.{Instance, Topic, Group}
use Rattle.dds_qos.specs.declared.policies.Ownership.{Ownership}
use Rattle.dds_qos.specs.declared.policies.Ownership.TheVariants.{Shared, Exclusive}
use Rattle.dds_qos.specs.declared.policies.LivelinessKind.{LivelinessKind}
use Rattle.dds_qos.specs.declared.policies.LivelinessKind.TheVariants.{Automatic, ManualByParticipant, ManualByTopic}
use Rattle.dds_qos.specs.declared.policies.Reliability.{Reliability}
use Rattle.dds_qos.specs.declared.policies.Reliability.TheVariants.{BestEffort, Reliable}
use Rattle.dds_qos.specs.declared.policies.DestinationOrder.{DestinationOrder}
use Rattle.dds_qos.specs.declared.policies.DestinationOrder.TheVariants.{ByReceptionTimestamp, BySourceTimestamp}
use Rattle.dds_qos.specs.declared.policies.HistoryKind.{HistoryKind}
use Rattle.dds_qos.specs.declared.policies.HistoryKind.TheVariants.{KeepLast, KeepAll}

-- true or false
abbrev pub flag_word : Bool → List ℕ
flag_word b = if b then codes "true" else codes "false"

abbrev pub durability_word : Durability → List ℕ
durability_word Volatile = codes "VOLATILE"
durability_word TransientLocal = codes "TRANSIENT_LOCAL"
durability_word Transient = codes "TRANSIENT"
durability_word Persistent = codes "PERSISTENT"

abbrev pub access_scope_word : AccessScope → List ℕ
access_scope_word Instance = codes "INSTANCE"
access_scope_word Topic = codes "TOPIC"
access_scope_word Group = codes "GROUP"

abbrev pub ownership_word : Ownership → List ℕ
ownership_word Shared = codes "SHARED"
ownership_word Exclusive = codes "EXCLUSIVE"

abbrev pub liveliness_word : LivelinessKind → List ℕ
liveliness_word Automatic = codes "AUTOMATIC"
liveliness_word ManualByParticipant = codes "MANUAL_BY_PARTICIPANT"
liveliness_word ManualByTopic = codes "MANUAL_BY_TOPIC"

abbrev pub reliability_word : Reliability → List ℕ
reliability_word BestEffort = codes "BEST_EFFORT"
reliability_word Reliable = codes "RELIABLE"

abbrev pub destination_order_word : DestinationOrder → List ℕ
destination_order_word ByReceptionTimestamp = codes "BY_RECEPTION_TIMESTAMP"
destination_order_word BySourceTimestamp = codes "BY_SOURCE_TIMESTAMP"

abbrev pub history_word : HistoryKind → List ℕ
history_word KeepLast = codes "KEEP_LAST"
history_word KeepAll = codes "KEEP_ALL"
