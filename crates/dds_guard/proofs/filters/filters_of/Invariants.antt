use Rattle.std.proofs.Common.{◌≡◌, map}
use Rattle.std.specs.List.{range_with_len}
use Rattle.dds_guard.specs.Guard.{own_filter}
use Rattle.dds_guard.proofs.filters.filters_of.Given as goal

-- the filters of the readers so far
abbrev pub invariant-loop-r : goal.invariant-loop-r
invariant-loop-r l = l.filters.items ≡ map (own_filter l.lists l.app) (range_with_len 0 l.r)
