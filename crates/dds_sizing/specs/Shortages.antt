-- What a search ran out of.
use Rattle.std.specs.Prelude.{ℕ, List, codes}
use Rattle.dds_search.specs.declared.budget.Shortage.{Shortage}
use Rattle.dds_search.specs.declared.budget.Shortage.TheVariants as short

-- the word for what a search ran out of
abbrev pub shortage_word : Shortage → List ℕ
shortage_word short.Seconds = codes "seconds"
shortage_word short.Pivots = codes "pivots"
shortage_word short.Markings = codes "markings"
shortage_word short.Events = codes "events"
shortage_word short.Bits = codes "bits"
shortage_word short.Rows = codes "rows"
shortage_word short.Ways = codes "ways"
