-- Why numbers 10 and 11 refuse a pair.
use Rattle.std.specs.Prelude.{codes, ℕ, List, [], ◌++◌}
use Rattle.std.specs.Option.{option_map_or}
use Rattle.dds_lists.specs.Lists.{Lists}
use Rattle.dds_match.specs.Matching.{why_not}
use Rattle.dds_match.specs.declared.matching.WhyNot.{WhyNot}
use Rattle.dds_match.specs.declared.matching.WhyNot.TheVariants.{OtherDomain, OtherTopic, Partitions, Policies}
use Rattle.dds_show.specs.Reasons.{reason_words}
use Rattle.dds_text.specs.Names.{writer_name, reader_name}
use Rattle.dds_explain.specs.Places.{domain_line, partitions_line, topic_line}
use Rattle.dds_explain.specs.Values.{value_lines}

-- what a writer and a reader have that keeps them apart: of each its domain, its topic or its partitions, or of policies what is offered and what is requested
abbrev pub reason_lines : Lists → ℕ → ℕ → WhyNot → List ℕ
reason_lines d w r OtherDomain = domain_line d w r
reason_lines d w r OtherTopic = topic_line d w r
reason_lines d w r Partitions = partitions_line d w r
reason_lines d w r (Policies set) = value_lines d set w r

-- the same of the reason why the two don't match, none where they match
abbrev pub mismatch_lines : Lists → ℕ → ℕ → List ℕ
mismatch_lines d w r = option_map_or (reason_lines d w r) (why_not d w r) []

-- a connection whose endpoints don't match, and why (DDS 1.4, clause 2.2.3)
abbrev pub not_matched_lines : Lists → ℕ → ℕ → List ℕ
not_matched_lines d w r =
    codes "because " ++ (writer_name d w ++ (codes " and " ++ (reader_name d r ++ (codes " don't match: " ++ (option_map_or reason_words (why_not d w r) [] ++ (codes "\n" ++ mismatch_lines d w r))))))

-- a pair that matches and is no connection
abbrev pub not_intended_line : Lists → ℕ → ℕ → List ℕ
not_intended_line d w r =
    codes "because " ++ (writer_name d w ++ (codes " and " ++ (reader_name d r ++ codes " match, and no connection names them\n")))
