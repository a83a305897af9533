-- The lines that say which endpoints match, and whether these are the connections.
use Rattle.std.specs.Prelude.{ℕ, Bool, not, if◌then◌else◌, List, ◌++◌, codes, Option, Some, None}
use Rattle.dds_lists.specs.Lists.{Lists}
use Rattle.dds_match.specs.Matching.{why_not}
use Rattle.dds_match.specs.Network.{Network}
use Rattle.dds_match.specs.declared.matching.WhyNot.{WhyNot}
use Rattle.dds_runs.specs.First.{all_below}
use Rattle.dds_text.specs.Names.{reader_name, writer_name}
use Rattle.dds_text.specs.Texts.{each_below}
use Rattle.dds_show.specs.Reasons.{reason_words}

-- the line of a pair with these names that matches, or doesn't for this reason
abbrev pub line_of : List ℕ → List ℕ → Option WhyNot → List ℕ
line_of w r None = codes "match " ++ (w ++ (codes " " ++ (r ++ codes "\n")))
line_of w r (Some reason) = codes "none " ++ (w ++ (codes " " ++ (r ++ (codes " " ++ (reason_words reason ++ codes "\n")))))

-- the line of the writer and the reader with these numbers
abbrev pub pair_line : Lists → ℕ → ℕ → List ℕ
pair_line d w r = line_of (writer_name d w) (reader_name d r) (why_not d w r)

-- the lines of a writer, by readers in file order
abbrev pub writer_lines : Lists → ℕ → ℕ → List ℕ
writer_lines d readers w = each_below readers (pair_line d w)

-- the lines of the first so many writers, in file order
abbrev pub lines_of : Lists → ℕ → ℕ → List ℕ
lines_of d writers readers = each_below writers (writer_lines d readers)

-- both or neither
abbrev pub is_same : Bool → Bool → Bool
is_same x y = if x then y else not y

-- the writer matches exactly the readers to which a connection joins it
abbrev pub is_writer_as_intended : Network → ℕ → Bool
is_writer_as_intended net w = all_below net.readers (λ r. is_same (net.matched w r) (net.intended w r))

-- exactly the pairs of the connections match
abbrev pub is_as_intended : Network → Bool
is_as_intended net = all_below net.writers (is_writer_as_intended net)
