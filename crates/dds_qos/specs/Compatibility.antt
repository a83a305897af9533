-- When an offer meets a request, policy by policy, and the set of the policies in which it doesn't (OMG DDS 1.4, clause 2.2.3).
use Rattle.std.specs.Prelude.{ℕ, Bool, true, false, not, ◌&&◌, ◌||◌, List, [], ◌∷◌, codes, nat_le}
use Rattle.std.specs.List.{list_any}
use Rattle.dds_qos.specs.declared.compatibility.Policy.{Policy}
use Rattle.dds_qos.specs.declared.compatibility.Policy.TheVariants.{Durability, Presentation, Deadline, LatencyBudget, Ownership, Liveliness, Reliability, DestinationOrder}
use Rattle.dds_qos.specs.declared.compatibility.PolicySet.{PolicySet}
use Rattle.dds_qos.specs.declared.policies.AccessScope.{AccessScope}
use Rattle.dds_qos.specs.declared.policies.AccessScope.TheVariants.{Instance, Topic, Group}
use Rattle.dds_qos.specs.declared.policies.DestinationOrder.{DestinationOrder as OrderKind}
use Rattle.dds_qos.specs.declared.policies.DestinationOrder.TheVariants.{ByReceptionTimestamp, BySourceTimestamp}
use Rattle.dds_qos.specs.declared.policies.Durability.{Durability as DurabilityKind}
use Rattle.dds_qos.specs.declared.policies.Durability.TheVariants.{Volatile, TransientLocal, Transient, Persistent}
use Rattle.dds_qos.specs.declared.policies.Duration.{Duration}
use Rattle.dds_qos.specs.declared.policies.Duration.TheVariants.{Nanoseconds, Infinite}
use Rattle.dds_qos.specs.declared.policies.Liveliness.{Liveliness as LivelinessPolicy}
use Rattle.dds_qos.specs.declared.policies.LivelinessKind.{LivelinessKind}
use Rattle.dds_qos.specs.declared.policies.LivelinessKind.TheVariants.{Automatic, ManualByParticipant, ManualByTopic}
use Rattle.dds_qos.specs.declared.policies.Ownership.{Ownership as OwnershipKind}
use Rattle.dds_qos.specs.declared.policies.Ownership.TheVariants.{Shared, Exclusive}
use Rattle.dds_qos.specs.declared.policies.Policies.{Policies}
use Rattle.dds_qos.specs.declared.policies.Presentation.{Presentation as PresentationPolicy}
use Rattle.dds_qos.specs.declared.policies.ReaderQos.{ReaderQos}
use Rattle.dds_qos.specs.declared.policies.Reliability.{Reliability as ReliabilityKind}
use Rattle.dds_qos.specs.declared.policies.Reliability.TheVariants.{BestEffort, Reliable}
use Rattle.dds_qos.specs.declared.policies.WriterQos.{WriterQos}

-- VOLATILE < TRANSIENT_LOCAL < TRANSIENT < PERSISTENT
abbrev pub durability_rank : DurabilityKind → ℕ
durability_rank Volatile = 0
durability_rank TransientLocal = 1
durability_rank Transient = 2
durability_rank Persistent = 3

-- INSTANCE < TOPIC < GROUP
abbrev pub scope_rank : AccessScope → ℕ
scope_rank Instance = 0
scope_rank Topic = 1
scope_rank Group = 2

-- AUTOMATIC < MANUAL_BY_PARTICIPANT < MANUAL_BY_TOPIC
abbrev pub liveliness_rank : LivelinessKind → ℕ
liveliness_rank Automatic = 0
liveliness_rank ManualByParticipant = 1
liveliness_rank ManualByTopic = 2

-- BEST_EFFORT < RELIABLE
abbrev pub reliability_rank : ReliabilityKind → ℕ
reliability_rank BestEffort = 0
reliability_rank Reliable = 1

-- BY_RECEPTION_TIMESTAMP < BY_SOURCE_TIMESTAMP
abbrev pub order_rank : OrderKind → ℕ
order_rank ByReceptionTimestamp = 0
order_rank BySourceTimestamp = 1

-- the first duration is no longer than the second: infinite equals infinite and is above every number
abbrev pub is_no_longer : Duration → Duration → Bool
is_no_longer (Nanoseconds n) (Nanoseconds m) = nat_le n m
is_no_longer (Nanoseconds n) Infinite = true
is_no_longer Infinite (Nanoseconds m) = false
is_no_longer Infinite Infinite = true

-- both are SHARED or both are EXCLUSIVE
abbrev pub is_same_ownership : OwnershipKind → OwnershipKind → Bool
is_same_ownership Shared Shared = true
is_same_ownership Shared Exclusive = false
is_same_ownership Exclusive Shared = false
is_same_ownership Exclusive Exclusive = true

-- what is asked for is offered
abbrev pub is_granted : Bool → Bool → Bool
is_granted offered requested = not requested || offered

-- PRESENTATION: no narrower scope than requested, and coherent and ordered access where they are asked for
abbrev pub is_presentation_met : PresentationPolicy → PresentationPolicy → Bool
is_presentation_met offered requested =
    nat_le (scope_rank requested.access_scope) (scope_rank offered.access_scope) && (is_granted offered.coherent requested.coherent && is_granted offered.ordered requested.ordered)

-- LIVELINESS: no weaker kind than requested, and no longer lease
abbrev pub is_liveliness_met : LivelinessPolicy → LivelinessPolicy → Bool
is_liveliness_met offered requested = nat_le (liveliness_rank requested.kind) (liveliness_rank offered.kind) && is_no_longer offered.lease requested.lease

-- what is offered meets what is requested in one policy
abbrev pub is_met : Policies → Policies → Policy → Bool
is_met offered requested Durability = nat_le (durability_rank requested.durability) (durability_rank offered.durability)
is_met offered requested Presentation = is_presentation_met offered.presentation requested.presentation
is_met offered requested Deadline = is_no_longer offered.deadline requested.deadline
is_met offered requested LatencyBudget = is_no_longer offered.latency_budget requested.latency_budget
is_met offered requested Ownership = is_same_ownership offered.ownership requested.ownership
is_met offered requested Liveliness = is_liveliness_met offered.liveliness requested.liveliness
is_met offered requested Reliability = nat_le (reliability_rank requested.reliability) (reliability_rank offered.reliability)
is_met offered requested DestinationOrder = nat_le (order_rank requested.destination_order) (order_rank offered.destination_order)

-- all policies, in the order in which they are reported
abbrev pub policies : List Policy
policies = Durability ∷ Presentation ∷ Deadline ∷ LatencyBudget ∷ Ownership ∷ Liveliness ∷ Reliability ∷ DestinationOrder ∷ []

-- a policy's name in the standard
abbrev pub name_of : Policy → List ℕ
name_of Durability = codes "DURABILITY"
name_of Presentation = codes "PRESENTATION"
name_of Deadline = codes "DEADLINE"
name_of LatencyBudget = codes "LATENCY_BUDGET"
name_of Ownership = codes "OWNERSHIP"
name_of Liveliness = codes "LIVELINESS"
name_of Reliability = codes "RELIABILITY"
name_of DestinationOrder = codes "DESTINATION_ORDER"

-- the policy is in the set
abbrev pub contains : PolicySet → Policy → Bool
contains set Durability = set.durability
contains set Presentation = set.presentation
contains set Deadline = set.deadline
contains set LatencyBudget = set.latency_budget
contains set Ownership = set.ownership
contains set Liveliness = set.liveliness
contains set Reliability = set.reliability
contains set DestinationOrder = set.destination_order

-- no policy is in the set
abbrev pub is_empty : PolicySet → Bool
is_empty set = not (list_any (contains set) policies)

-- the set of the policies that pass the test
abbrev pub set_of : (Policy → Bool) → PolicySet
set_of test = record {
  durability = test Durability;
  presentation = test Presentation;
  deadline = test Deadline;
  latency_budget = test LatencyBudget;
  ownership = test Ownership;
  liveliness = test Liveliness;
  reliability = test Reliability;
  destination_order = test DestinationOrder;
}

-- the policies in which the writer's offer does not meet the reader's request
abbrev pub incompatible : WriterQos → ReaderQos → PolicySet
incompatible writer reader = set_of (λ policy. not (is_met writer.offered reader.requested policy))
