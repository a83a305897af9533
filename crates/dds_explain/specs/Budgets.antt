-- What bounds the weighted sum of a row, in its two parts: what the permits at the opening weigh, and the samples that caps carry.
use Rattle.std.specs.Prelude.{codes, ℕ, List, [], ◌++◌, ◌*◌, ◌==◌, map, if◌then◌else◌}
use Rattle.std.specs.Fmt.{decimal}
use Rattle.std.specs.Option.{option_map_or}
use Rattle.dds_base.specs.Grid.{most_keys}
use Rattle.dds_base.specs.Sums.{total_pairs}
use Rattle.dds_lists.specs.Lists.{Lists}
use Rattle.dds_match.specs.Network.{Network}
use Rattle.dds_match.specs.Plan.{network_of}
use Rattle.dds_weights.specs.Lists as lists
use Rattle.dds_text.specs.Names.{reader_key, reader_name}
use Rattle.dds_text.specs.Texts.{each_below}
use Rattle.dds_runs.specs.Accepted.{Row, row_of, budget, carried, opening_weight}
use Rattle.dds_check.specs.Shown.{carried_weight}
use Rattle.dds_explain.specs.declared.budgets.Budget.{Budget}
use Rattle.dds_explain.specs.Paces.{capped_lines}
use Rattle.dds_explain.specs.Pieces.{weighed_term}

-- what the samples weigh, at most, that a row carries by caps
abbrev pub all_carried : Network → Row → ℕ
all_carried net row = total_pairs net.readers net.keys (carried_weight net row)

-- the budget of a row with its parts
abbrev pub budget_of : Network → Row → Budget
budget_of net row = record { opening = opening_weight net row; carried = all_carried net row; whole = budget net row }

-- those of some rows
abbrev pub budgets : Network → List lists.Row → List Budget
budgets net rows = map (λ row. budget_of net (row_of row)) rows

-- what caps carry, after other words, if that's something
abbrev pub carried_text : List ℕ → Budget → List ℕ → List ℕ
carried_text before b after = if b.carried == 0 then [] else before ++ (decimal b.carried ++ after)

-- at most so many samples of a key that a reader has yet to take, of this weight, with the terms of the caps, if they weigh something
abbrev pub samples_lines : Lists → ℕ → ℕ → ℕ → ℕ → List ℕ
samples_lines d r k weight n = if weight * n == 0 then [] else weighed_term (codes "samples") n weight (reader_key d r k) (reader_name d r) ++ capped_lines d r k

-- the samples of a key at a reader that a row carries by caps
abbrev pub key_carried_lines : Lists → lists.Row → ℕ → ℕ → List ℕ
key_carried_lines d row r k = option_map_or (samples_lines d r k ((row_of row).samples r k)) (carried (network_of d) (row_of row) r k) []

-- those of a reader
abbrev pub reader_carried_lines : Lists → lists.Row → ℕ → List ℕ
reader_carried_lines d row r = each_below most_keys (key_carried_lines d row r)

-- those of all readers
abbrev pub carried_lines : Lists → lists.Row → List ℕ
carried_lines d row = each_below (network_of d).readers (reader_carried_lines d row)
