-- What rules take and write, and which endpoints match, as edges of a picture, in DOT.
use Rattle.std.specs.Prelude.{codes, ℕ, Bool, List, [], ◌++◌, flat_map, length, slice_get, Option, Some, None, if◌then◌else◌}
use Rattle.std.specs.Fmt.{decimal}
use Rattle.std.specs.Option.{option_map_or}
use Rattle.dds_base.specs.declared.portion.Portion.{Portion}
use Rattle.dds_lists.specs.Lists.{Lists, Rule}
use Rattle.dds_match.specs.Matching.{why_not}
use Rattle.dds_match.specs.Plan.{intended}
use Rattle.dds_match.specs.declared.matching.WhyNot.{WhyNot}
use Rattle.dds_text.specs.Names.{reader_key, reader_name, writer_key, writer_name}
use Rattle.dds_text.specs.Texts.{each_below}
use Rattle.dds_show.specs.Reasons.{reason_words}

-- what a rule takes of a key at a reader
abbrev pub take_edge : Lists → ℕ → Portion ℕ → List ℕ
take_edge d u x =
    codes "  \"reader "
    ++ (reader_name d x.endpoint
    ++ (codes "\" -> \"rule " ++ (decimal u ++ (codes "\" [label=\"" ++ (decimal x.count ++ (codes " " ++ (reader_key d x.endpoint x.key ++ codes "\"];\n")))))))

-- what a rule writes of a key at a writer
abbrev pub write_edge : Lists → ℕ → Portion ℕ → List ℕ
write_edge d u x =
    codes "  \"rule "
    ++ (decimal u
    ++ (codes "\" -> \"writer "
    ++ (writer_name d x.endpoint ++ (codes "\" [label=\"" ++ (decimal x.count ++ (codes " " ++ (writer_key d x.endpoint x.key ++ codes "\"];\n")))))))

-- what a rule takes, then what it writes
abbrev pub rule_edges : Lists → ℕ → Rule → List ℕ
rule_edges d u x = flat_map (take_edge d u) x.takes ++ flat_map (write_edge d u) x.writes

-- the edges of the rule with this number
abbrev pub rule_at : Lists → ℕ → List ℕ
rule_at d u = option_map_or (rule_edges d u) (slice_get d.rules.entries u) []

-- the edges of all rules, in their order
unfoldable pub all_rule_edges : Lists → List ℕ
all_rule_edges d = each_below (length d.rules.entries) (rule_at d)

-- the edge from a writer to a reader with these names and attributes
abbrev pub connection_edge : List ℕ → List ℕ → List ℕ → List ℕ
connection_edge writer reader attributes = codes "  \"writer " ++ (writer ++ (codes "\" -> \"reader " ++ (reader ++ (codes "\"" ++ (attributes ++ codes ";\n")))))

-- the edge of a writer and a reader with these names, which match or don't for this reason (OMG DDS 1.4, clause 2.2.3). It is red and says so where they match
-- and no connection names them, or a connection names them and they don't match; there is none where neither holds
abbrev pub edge_of : List ℕ → List ℕ → Bool → Option WhyNot → List ℕ
edge_of writer reader named None =
    if named then connection_edge writer reader [] else connection_edge writer reader (codes " [style=dotted, color=red, label=\"no connection\"]")
edge_of writer reader named (Some reason) =
    if named then connection_edge writer reader (codes " [style=dashed, color=red, label=\"" ++ (reason_words reason ++ codes "\"]")) else []

-- the edge of the writer and the reader with these numbers
unfoldable pub pair_edge : Lists → ℕ → ℕ → List ℕ
pair_edge d w r = edge_of (writer_name d w) (reader_name d r) (intended d w r) (why_not d w r)

-- the edges of a writer, by readers in file order
abbrev pub pair_edges : Lists → ℕ → List ℕ
pair_edges d w = each_below (length d.readers.entries) (pair_edge d w)

-- the edges from all writers to readers, by writers in file order
unfoldable pub all_pair_edges : Lists → List ℕ
all_pair_edges d = each_below (length d.writers.entries) (pair_edges d)
