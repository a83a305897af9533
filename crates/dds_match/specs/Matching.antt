-- Why a writer and a reader do not match (OMG DDS 1.4, clause 2.2.3).
use Rattle.std.specs.Prelude.{ℕ, not, ◌==◌, Option, Some, None, option_map, option_and_then, unwrap_or, slice_get, if◌then◌else◌}
use Rattle.dds_qos.specs.Compatibility.{incompatible, is_empty}
use Rattle.dds_lists.specs.Lists.{Participant, Writer, Reader, Lists}
use Rattle.dds_match.specs.Partitions.{lists_match}
use Rattle.dds_match.specs.declared.matching.WhyNot.{WhyNot}
use Rattle.dds_match.specs.declared.matching.WhyNot.TheVariants.{OtherDomain, OtherTopic, Partitions, Policies}

-- the domain of the participant with this number
abbrev pub domain_at : Lists → ℕ → ℕ
domain_at d p = unwrap_or (option_map (λ (x : Participant). x.domain) (slice_get d.participants.entries p)) 0

-- the first reason: domains, then topics, then partitions, then the incompatible policies. None where the two match
unfoldable pub reason : Lists → Writer → Reader → Option WhyNot
reason d w r =
    if not (domain_at d w.participant == domain_at d r.participant) then Some OtherDomain else
    (if not (w.topic == r.topic) then Some OtherTopic else
    (if not (lists_match w.partitions r.partitions) then Some Partitions else
    (if is_empty (incompatible w.qos r.qos) then None else Some (Policies (incompatible w.qos r.qos)))))

-- the reason of the writer and the reader with these numbers, none where one is not there
abbrev pub why_not : Lists → ℕ → ℕ → Option WhyNot
why_not d w r = option_and_then (λ x. option_and_then (λ y. reason d x y) (slice_get d.readers.entries r)) (slice_get d.writers.entries w)
