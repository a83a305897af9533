use Rattle.std.proofs.Common.{◌≡◌, ℕ, ◌/◌, ◌%◌, ◌<◌, length, get_or, None}
use Rattle.dds_match.specs.Matching.{why_not}
use Rattle.dds_match.proofs.tables.reasons_of.Given as goal

abbrev pub invariant-loop-place : goal.invariant-loop-place
invariant-loop-place l = record {
  size : length l.reasons.items ≡ l.place;
  each : (n : ℕ) → n < l.place → get_or l.reasons.items n None ≡ why_not l.lists (n / 256) (n % 256);
}
