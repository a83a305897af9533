-- Why a writer and a reader don't match, in words (OMG DDS 1.4, clause 2.2.3).
use Rattle.std.specs.Prelude.{ℕ, List, ◌++◌, codes, filter}
use Rattle.std.specs.List.{join_by}
use Rattle.dds_qos.specs.Compatibility.{contains, name_of, policies}
use Rattle.dds_match.specs.declared.matching.WhyNot.{WhyNot}
use Rattle.dds_match.specs.declared.matching.WhyNot.TheVariants.{OtherDomain, OtherTopic, Partitions, Policies}

-- a reason in words; of incompatible policies their names, with commas between them
abbrev pub reason_words : WhyNot → List ℕ
reason_words OtherDomain = codes "domain"
reason_words OtherTopic = codes "topic"
reason_words Partitions = codes "partition"
reason_words (Policies set) = codes "policies " ++ join_by name_of (codes ",") (filter (contains set) policies)
