use Rattle.std.proofs.Common.{◌≡◌, length}
use Rattle.dds_match.specs.Plan.{network_of}
use Rattle.dds_domain.specs.Opening.{ReaderOpens}
use Rattle.dds_domain.specs.Standing.{AllAt}
use Rattle.dds_domain.proofs.opening.readers.Given as goal

-- the readers so far
abbrev pub invariant-loop-r : goal.invariant-loop-r
invariant-loop-r l = record {
  count : length l.all.items ≡ l.r;
  each : AllAt (ReaderOpens (network_of l.plan)) l.all.items;
}
