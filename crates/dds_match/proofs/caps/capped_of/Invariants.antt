use Rattle.std.proofs.Common.{◌≡◌, ℕ, ◌/◌, ◌%◌, ◌<◌, length, get_or, None}
use Rattle.dds_match.specs.Network.{capped}
use Rattle.dds_match.specs.Plan.{network_of}
use Rattle.dds_match.proofs.caps.capped_of.Given as goal

abbrev pub invariant-loop-place : goal.invariant-loop-place
invariant-loop-place l = record {
  size : length l.cells.items ≡ l.place;
  each : (n : ℕ) → n < l.place → get_or l.cells.items n None ≡ capped (network_of l.lists) (n / 64) (n % 64);
}
