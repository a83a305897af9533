use Rattle.std.proofs.Common.{◌≡◌, ◌∙◌, ◌<◌, ℕ, List, Option, [], ap, sym, get_or, length, slice_get}
use Rattle.std.specs.Option.{option_map_or}
use Rattle.std.proofs.lemmas.Option.{slice_get-get_or}
use Rattle.dds_lists.specs.Lists.{Lists}
use Rattle.dds_show.specs.Connections.{connection_table, matching_pairs}
use Rattle.dds_show.proofs.connections.connection_piece.Goals as goal

-- the table of the pair at a place
table_at : (d : Lists) (pairs : List (ℕ × ℕ)) (place : ℕ) (p : ℕ × ℕ) → pairs ≡ matching_pairs d → place < length pairs
    → connection_table d (get_or pairs place p) ≡ option_map_or (connection_table d) (slice_get (matching_pairs d) place) []
table_at d pairs place p same there = sym (ap (λ (x : Option (ℕ × ℕ)). option_map_or (connection_table d) x []) (slice_get-get_or pairs place p there))
    ∙ ap (λ ps. option_map_or (connection_table d) (slice_get ps place) []) same

pub returns : goal.returns
returns c = rw (c.start_of-start.ensures, c.in_ok-table.ensures, table_at c.args.plan.now c.args.pairs.now c.args.place _ c.requires.pairs c.requires.there) at c.format.ensures.ok
