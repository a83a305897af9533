-- Why number 33 refuses a bound or a total: what the permits at the opening weigh by its row, what caps carry, and what a sample weighs.
use Rattle.std.specs.Prelude.{codes, ℕ, List, [], ◌++◌, ◌==◌, ◌&&◌, ◌/◌, flat_map, length, slice_get, if◌then◌else◌}
use Rattle.std.specs.Fmt.{decimal}
use Rattle.std.specs.Option.{option_map_or}
use Rattle.dds_base.specs.Grid.{most_keys}
use Rattle.dds_lists.specs.Lists.{Lists}
use Rattle.dds_match.specs.Network.{reach}
use Rattle.dds_match.specs.Plan.{network_of}
use Rattle.dds_weights.specs.Lists.{Certificate, Row}
use Rattle.dds_text.specs.Names.{reader_key, writer_key, writer_name, reader_name}
use Rattle.dds_text.specs.Texts.{each_below}
use Rattle.dds_weights.specs.declared.certificate.Bound.{Bound}
use Rattle.dds_weights.specs.declared.certificate.Total.{Total}
use Rattle.dds_runs.specs.Accepted.{row_of, opening_permits}
use Rattle.dds_check.specs.Shown.{shows, shows_all}
use Rattle.dds_explain.specs.declared.budgets.Budget.{Budget}
use Rattle.dds_explain.specs.Budgets.{budget_of, carried_lines, carried_text}
use Rattle.dds_explain.specs.Pieces.{weighed_term}

-- the least bound that a row shows, by its budget and what a sample weighs
abbrev pub shown_text : ℕ → ℕ → List ℕ
shown_text whole weight = if weight == 0 then codes "no bound" else decimal (whole / weight)

-- what a sample of a key weighs, and what that shows
abbrev pub sample_line : Lists → Row → ℕ → ℕ → ℕ → List ℕ
sample_line d row whole r k =
    codes "  a sample of " ++ (reader_key d r k ++ (codes " weighs " ++ (decimal ((row_of row).samples r k) ++ (codes ", which shows " ++ (shown_text whole ((row_of row).samples r k) ++ codes "\n")))))

-- the permits to write a key at a writer at the opening, if there are any
abbrev pub permit_line : Lists → Row → ℕ → ℕ → List ℕ
permit_line d row w k =
    if opening_permits (network_of d) w k == 0
    then []
    else weighed_term (codes "permits") (opening_permits (network_of d) w k) ((row_of row).permits w k) (writer_key d w k) (writer_name d w)

-- the permits at the opening at a writer
abbrev pub writer_permit_lines : Lists → Row → ℕ → List ℕ
writer_permit_lines d row w = each_below most_keys (permit_line d row w)

-- the permits at the opening at all writers
abbrev pub permit_lines : Lists → Row → List ℕ
permit_lines d row = each_below (length d.writers.entries) (writer_permit_lines d row)

-- what a row doesn't show, what the permits at the opening weigh by it, and what caps carry
abbrev pub unshown_line : Row → List ℕ → Budget → List ℕ
unshown_line row claim b =
    codes "because " ++ (row.name ++ (codes " doesn't show " ++ (claim ++ (codes ": permits at the opening weigh " ++ (decimal b.opening ++ (carried_text (codes ", and samples that caps carry ") b [] ++ codes "\n"))))))

-- ── bounds
-- a bound in words
abbrev pub bound_claim : Lists → Bound → List ℕ
bound_claim d b = codes "the bound " ++ (decimal b.bound ++ (codes " of " ++ (reader_key d b.reader b.key ++ (codes " at " ++ reader_name d b.reader))))

-- the terms of a row's budget: the permits at the opening, and the samples that caps carry
abbrev pub budget_lines : Lists → Row → List ℕ
budget_lines d row = permit_lines d row ++ carried_lines d row

-- a bound that its row doesn't show, with a sample of its key
abbrev pub bound_head : Lists → Row → Bound → Budget → List ℕ
bound_head d row x b = unshown_line row (bound_claim d x) b ++ sample_line d row b.whole x.reader x.key

-- the same with the terms of the budget
abbrev pub bound_lines : Lists → Row → Bound → Budget → List ℕ
bound_lines d row x b = bound_head d row x b ++ budget_lines d row

-- what its row weighs, without the terms
abbrev pub brief_bound : Lists → Certificate → Bound → List ℕ
brief_bound d c x = option_map_or (λ row. bound_head d row x (budget_of (network_of d) (row_of row))) (slice_get c.rows x.row) []

-- the same, if the row doesn't show it
abbrev pub unshown_bound_by : Lists → Row → Bound → List ℕ
unshown_bound_by d row b = if shows (network_of d) (row_of row) b.bound b.reader b.key then [] else bound_lines d row b (budget_of (network_of d) (row_of row))

-- the same, if it is a bound of the key at the reader
abbrev pub unshown_bound : Lists → Certificate → ℕ → ℕ → Bound → List ℕ
unshown_bound d c r k b = if (b.reader == r) && (b.key == k) then option_map_or (λ row. unshown_bound_by d row b) (slice_get c.rows b.row) [] else []

-- the bounds of a key at a reader that their rows don't show
abbrev pub bound_not_shown_lines : Lists → Certificate → ℕ → ℕ → List ℕ
bound_not_shown_lines d c r k = flat_map (unshown_bound d c r k) c.bounds

-- ── totals
-- a total in words
abbrev pub total_claim : Lists → Total → List ℕ
total_claim d t = codes "the total " ++ (decimal t.bound ++ (codes " of " ++ reader_name d t.reader))

-- what a sample of a key weighs that can reach the reader
abbrev pub reached_sample_line : Lists → Row → ℕ → ℕ → ℕ → List ℕ
reached_sample_line d row whole r k = if reach (network_of d) r k then sample_line d row whole r k else []

-- a total that its row doesn't show, with a sample of each key
abbrev pub total_head : Lists → Row → Total → Budget → List ℕ
total_head d row t b = unshown_line row (total_claim d t) b ++ each_below most_keys (reached_sample_line d row b.whole t.reader)

-- the same with the terms of the budget
abbrev pub total_lines : Lists → Row → Total → Budget → List ℕ
total_lines d row t b = total_head d row t b ++ budget_lines d row

-- what its row weighs, without the terms
abbrev pub brief_total : Lists → Certificate → Total → List ℕ
brief_total d c t = option_map_or (λ row. total_head d row t (budget_of (network_of d) (row_of row))) (slice_get c.rows t.row) []

-- the same, if the row doesn't show it
abbrev pub unshown_total_by : Lists → Row → Total → List ℕ
unshown_total_by d row t = if shows_all (network_of d) (row_of row) t then [] else total_lines d row t (budget_of (network_of d) (row_of row))

-- the same, if it is a total of the reader
abbrev pub unshown_total : Lists → Certificate → ℕ → Total → List ℕ
unshown_total d c r t = if t.reader == r then option_map_or (λ row. unshown_total_by d row t) (slice_get c.rows t.row) [] else []

-- the totals of a reader that their rows don't show
abbrev pub total_not_shown_lines : Lists → Certificate → ℕ → List ℕ
total_not_shown_lines d c r = flat_map (unshown_total d c r) c.totals
