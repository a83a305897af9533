use Rattle.std.proofs.Common.{◌≡◌, length}
use Rattle.dds_match.specs.Plan.{network_of}
use Rattle.dds_domain.specs.Opening.{WriterOpens}
use Rattle.dds_domain.specs.Standing.{AllAt}
use Rattle.dds_domain.proofs.opening.writers.Given as goal

-- the writers so far
abbrev pub invariant-loop-w : goal.invariant-loop-w
invariant-loop-w l = record {
  count : length l.all.items ≡ l.w;
  each : AllAt (WriterOpens (network_of l.plan)) l.all.items;
}
