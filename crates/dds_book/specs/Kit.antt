-- What a book is opened from: a domain that was just opened, and a pair of halves for each seat.
use Rattle.std.specs.Prelude.{◌≡◌, ℕ, suc, List, [], ◌∷◌, map}
use Rattle.atomic_table.specs.Seated.{TableId}
use Rattle.dds_base.specs.Section.{nothing}
use Rattle.dds_lists.specs.Lists.{Lists, no_rules}
use Rattle.dds_check.specs.Checked.{Judged}
use Rattle.dds_book.specs.declared.entry.Entry.{Entry}
use Rattle.dds_book.specs.Halves.{HalfState, HolderState, half_of, holder_of}

-- the checked plan, and the table of each seat's pair
pub record KitState : Type 0 where
  pub checked : Judged
  pub tables : List TableId

-- the kit is of this plan, and its pairs have these tables
pub record IsKitOf (plan : Lists) (tables : List TableId) (kit : KitState) : Type 0 where
  pub same_plan : kit.checked.plan ≡ plan
  pub same_tables : kit.tables ≡ tables

-- the lists of a plan with nothing in it
abbrev pub no_lists : Lists
no_lists = record { version = 1; participants = nothing; topics = nothing; writers = nothing; readers = nothing; applications = nothing; rules = no_rules; connections = [] }

-- ── pairs
-- a half with an empty front
abbrev pub new_half : TableId → HalfState Entry
new_half table = half_of table []

-- the table of a half
abbrev pub table_of : HalfState Entry → TableId
table_of half = half.table

-- the other halves, with empty fronts, for the seats from one number on
abbrev pub new_holders : ℕ → List TableId → List (HolderState Entry)
new_holders seat [] = []
new_holders seat (table ∷ tables) = holder_of table seat [] ∷ new_holders (suc seat) tables

-- each half has an empty front, and each holder is the other half of its pair, for the seat of its place
pub record ArePairs (holders : List (HolderState Entry)) (halves : List (HalfState Entry)) : Type 0 where
  pub halves_new : halves ≡ map new_half (map table_of halves)
  pub holders_new : holders ≡ new_holders 0 (map table_of halves)
