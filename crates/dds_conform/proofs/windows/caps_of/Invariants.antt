use Rattle.std.proofs.Common.{◌≡◌, ℕ, ◌/◌, ◌%◌, ◌<◌, length, get_or, None, Some}
use Rattle.dds_match.specs.Paces.{in_flight}
use Rattle.dds_conform.proofs.windows.caps_of.Given as goal

-- the cells of the places so far
abbrev pub invariant-loop-place : goal.invariant-loop-place
invariant-loop-place l = record {
  size : length l.caps.items ≡ l.place;
  each : (n : ℕ) → n < l.place → get_or l.caps.items n None ≡ in_flight l.plan (n / 64) l.reader (n % 64) (Some l.nanoseconds);
}
