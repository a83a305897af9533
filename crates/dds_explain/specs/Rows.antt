-- Why numbers 30 to 32 refuse a row: what weighs more after a take, a firing or a write than before it.
use Rattle.std.specs.Prelude.{codes, ℕ, List, [], ◌++◌, ◌&&◌, is_none, flat_map, length, slice_get, if◌then◌else◌}
use Rattle.std.specs.Fmt.{decimal}
use Rattle.std.specs.Option.{option_map_or}
use Rattle.dds_base.specs.declared.portion.Portion.{Portion}
use Rattle.dds_lists.specs.Lists.{Lists, Rule}
use Rattle.dds_match.specs.Network.{weighed}
use Rattle.dds_match.specs.Plan.{network_of}
use Rattle.dds_weights.specs.Lists.{Certificate, Row}
use Rattle.dds_text.specs.Names.{reader_key, writer_key, writer_name, reader_name, rule_text}
use Rattle.dds_text.specs.Texts.{each_below}
use Rattle.dds_runs.specs.Accepted.{row_of, carried, spread}
use Rattle.dds_explain.specs.Pieces.{weighed_term}

-- ── 30
-- what a take weighs, and a sample
abbrev pub take_line : Lists → Row → ℕ → ℕ → List ℕ
take_line d row r k =
    codes "because by " ++ (row.name ++ (codes " a take of " ++ (reader_key d r k ++ (codes " at " ++ (reader_name d r ++ (codes " weighs " ++ (decimal ((row_of row).takes r k)
    ++ (codes ", and a sample " ++ (decimal ((row_of row).samples r k) ++ codes "\n")))))))))

-- the same by the place of the row
abbrev pub take_raises_line : Lists → Certificate → ℕ → ℕ → ℕ → List ℕ
take_raises_line d c n r k = option_map_or (λ row. take_line d row r k) (slice_get c.rows n) []

-- ── 31
-- what a rule writes at one writer
abbrev pub write_term : Lists → Row → Portion ℕ → List ℕ
write_term d row x = weighed_term (codes "writes") x.count ((row_of row).permits x.endpoint x.key) (writer_key d x.endpoint x.key) (writer_name d x.endpoint)

-- what a rule takes at one reader
abbrev pub take_term : Lists → Row → Portion ℕ → List ℕ
take_term d row x = weighed_term (codes "takes") x.count ((row_of row).takes x.endpoint x.key) (reader_key d x.endpoint x.key) (reader_name d x.endpoint)

-- what a rule writes and takes, weighed
abbrev pub firing_line : Row → List ℕ → Rule → List ℕ
firing_line row name rule =
    codes "because by " ++ (row.name ++ (codes " what " ++ (name ++ (codes " writes weighs " ++ (decimal (weighed rule.writes (row_of row).permits) ++ (codes ", and what it takes "
    ++ (decimal (weighed rule.takes (row_of row).takes) ++ codes "\n")))))))

-- the same with its terms
abbrev pub firing_lines : Lists → Row → ℕ → Rule → List ℕ
firing_lines d row u rule = firing_line row (rule_text d u) rule ++ (flat_map (write_term d row) rule.writes ++ flat_map (take_term d row) rule.takes)

-- the same by the number of the rule
abbrev pub rule_lines : Lists → Row → ℕ → List ℕ
rule_lines d row u = option_map_or (firing_lines d row u) (slice_get d.rules.entries u) []

-- the same by the place of the row
abbrev pub rule_raises_lines : Lists → Certificate → ℕ → ℕ → List ℕ
rule_raises_lines d c n u = option_map_or (λ row. rule_lines d row u) (slice_get c.rows n) []

-- ── 32
-- what a sample of the key weighs at a matched reader that hears it, unless caps carry it
abbrev pub heard_line : Lists → Row → ℕ → ℕ → ℕ → List ℕ
heard_line d row w k r =
    if (network_of d).matched w r && ((network_of d).hears r k && is_none (carried (network_of d) (row_of row) r k))
    then codes "  a sample at " ++ (reader_name d r ++ (codes " weighs " ++ (decimal ((row_of row).samples r k) ++ codes "\n")))
    else []

-- what the permit of a write weighs, or that a free write uses none
abbrev pub permit_text : Lists → Row → ℕ → ℕ → List ℕ
permit_text d row w k = if (network_of d).free w k then codes "it uses no permit" else codes "its permit weighs " ++ decimal ((row_of row).permits w k)

-- what the samples of a write weigh, and its permit
abbrev pub write_line : Lists → Row → ℕ → ℕ → List ℕ
write_line d row w k =
    codes "because by " ++ (row.name ++ (codes " a write of " ++ (writer_key d w k ++ (codes " at " ++ (writer_name d w ++ (codes " puts samples in flight that weigh "
    ++ (decimal (spread (network_of d) (row_of row) w k) ++ (codes ", and " ++ (permit_text d row w k ++ codes "\n")))))))))

-- the same with a line for each reader
abbrev pub write_lines : Lists → Row → ℕ → ℕ → List ℕ
write_lines d row w k = write_line d row w k ++ each_below (length d.readers.entries) (heard_line d row w k)

-- the same by the place of the row
abbrev pub write_raises_lines : Lists → Certificate → ℕ → ℕ → ℕ → List ℕ
write_raises_lines d c n w k = option_map_or (λ row. write_lines d row w k) (slice_get c.rows n) []
