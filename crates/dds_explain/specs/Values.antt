-- What a writer offers and a reader requests where their policies don't agree, field by field (OMG DDS 1.4, clause 2.2.3).
use Rattle.std.specs.Prelude.{ℕ, Bool, nat_le, if◌then◌else◌, codes, List, [], ◌++◌, flat_map, Option, option_map, slice_get}
use Rattle.std.specs.Option.{option_map_or}
use Rattle.dds_qos.specs.Compatibility.{contains, is_granted, is_no_longer, liveliness_rank, policies, scope_rank}
use Rattle.dds_qos.specs.declared.compatibility.Policy.{Policy}
use Rattle.dds_qos.specs.declared.compatibility.Policy.TheVariants as policy
use Rattle.dds_qos.specs.declared.compatibility.PolicySet.{PolicySet}
use Rattle.dds_qos.specs.declared.policies.Duration.{Duration}
use Rattle.dds_qos.specs.declared.policies.Duration.TheVariants.{Nanoseconds, Infinite}
use Rattle.dds_qos.specs.declared.policies.Liveliness.{Liveliness}
use Rattle.dds_qos.specs.declared.policies.Policies.{Policies}
use Rattle.dds_qos.specs.declared.policies.Presentation.{Presentation}
use Rattle.dds_lists.specs.Lists.{Lists, Reader, Writer}
use Rattle.dds_text.specs.Words.{access_scope_word, destination_order_word, durability_word, liveliness_word, ownership_word, reliability_word}
use Rattle.dds_show.specs.Times.{time_text}

-- a field of the file, with what is offered and what is requested there
abbrev pub value_line : (field offered requested : List ℕ) → List ℕ
value_line field offered requested = codes "  " ++ (field ++ (codes ": offered " ++ (offered ++ (codes ", requested " ++ (requested ++ codes "\n")))))

-- a length of time
abbrev pub duration_text : Duration → List ℕ
duration_text (Nanoseconds n) = time_text n
duration_text Infinite = codes "infinite"

-- a field that holds a length of time
abbrev pub duration_line : (field : List ℕ) → (offered requested : Duration) → List ℕ
duration_line field offered requested = value_line field (duration_text offered) (duration_text requested)

-- a field that holds true or false, where true is requested and isn't offered
abbrev pub flag_line : (field : List ℕ) → (offered requested : Bool) → List ℕ
flag_line field offered requested = if is_granted offered requested then [] else value_line field (codes "false") (codes "true")

-- the scope of PRESENTATION, where a narrower one is offered than requested
abbrev pub scope_line : (offered requested : Presentation) → List ℕ
scope_line offered requested =
    if nat_le (scope_rank requested.access_scope) (scope_rank offered.access_scope) then [] else
    value_line (codes "access_scope") (access_scope_word offered.access_scope) (access_scope_word requested.access_scope)

-- the fields of PRESENTATION whose offer doesn't meet the request
abbrev pub presentation_lines : (offered requested : Presentation) → List ℕ
presentation_lines offered requested =
    scope_line offered requested ++ (flag_line (codes "coherent") offered.coherent requested.coherent ++ flag_line (codes "ordered") offered.ordered requested.ordered)

-- the kind of LIVELINESS, where a weaker one is offered than requested
abbrev pub kind_line : (offered requested : Liveliness) → List ℕ
kind_line offered requested =
    if nat_le (liveliness_rank requested.kind) (liveliness_rank offered.kind) then [] else
    value_line (codes "liveliness") (liveliness_word offered.kind) (liveliness_word requested.kind)

-- its lease, where a longer one is offered than requested
abbrev pub lease_line : (offered requested : Liveliness) → List ℕ
lease_line offered requested = if is_no_longer offered.lease requested.lease then [] else duration_line (codes "lease") offered.lease requested.lease

-- the fields of LIVELINESS whose offer doesn't meet the request
abbrev pub liveliness_lines : (offered requested : Liveliness) → List ℕ
liveliness_lines offered requested = kind_line offered requested ++ lease_line offered requested

-- the fields of a policy whose offer doesn't meet the request, if it doesn't
abbrev pub policy_lines : (offered requested : Policies) → Policy → List ℕ
policy_lines offered requested policy.Durability = value_line (codes "durability") (durability_word offered.durability) (durability_word requested.durability)
policy_lines offered requested policy.Presentation = presentation_lines offered.presentation requested.presentation
policy_lines offered requested policy.Deadline = duration_line (codes "deadline") offered.deadline requested.deadline
policy_lines offered requested policy.LatencyBudget = duration_line (codes "latency_budget") offered.latency_budget requested.latency_budget
policy_lines offered requested policy.Ownership = value_line (codes "ownership") (ownership_word offered.ownership) (ownership_word requested.ownership)
policy_lines offered requested policy.Liveliness = liveliness_lines offered.liveliness requested.liveliness
policy_lines offered requested policy.Reliability = value_line (codes "reliability") (reliability_word offered.reliability) (reliability_word requested.reliability)
policy_lines offered requested policy.DestinationOrder =
    value_line (codes "destination_order") (destination_order_word offered.destination_order) (destination_order_word requested.destination_order)

-- the fields of a policy of the set
abbrev pub unmet_lines : PolicySet → (offered requested : Policies) → Policy → List ℕ
unmet_lines set offered requested p = if contains set p then policy_lines offered requested p else []

-- the fields of the policies of the set, in the order of the standard
abbrev pub set_lines : PolicySet → (offered requested : Policies) → List ℕ
set_lines set offered requested = flat_map (unmet_lines set offered requested) policies

-- what a writer offers, and what a reader requests
abbrev pub offer_of : Lists → ℕ → Option Policies
offer_of d w = option_map (λ (x : Writer). x.qos.offered) (slice_get d.writers.entries w)

abbrev pub request_of : Lists → ℕ → Option Policies
request_of d r = option_map (λ (x : Reader). x.qos.requested) (slice_get d.readers.entries r)

-- the fields of the policies of the set, of an offer and a request if there are some
abbrev pub compared_lines : PolicySet → (offer request : Option Policies) → List ℕ
compared_lines set offer request = option_map_or (λ o. option_map_or (set_lines set o) request []) offer []

-- the fields in which the policies of the set, of a writer and of a reader, don't agree
abbrev pub value_lines : Lists → PolicySet → ℕ → ℕ → List ℕ
value_lines d set w r = compared_lines set (offer_of d w) (request_of d r)
