use Rattle.std.proofs.Common.{◌≡◌, ℕ, ◌*◌, ◌/◌, ◌≤◌, ◌<◌, false, get_or}
use Rattle.dds_base.specs.Words.{flags_in}
use Rattle.dds_base.proofs.words.next_flag.Given as goal

abbrev pub invariant-loop-at : goal.invariant-loop-at
invariant-loop-at l = record {
  low : l.from / 64 ≤ l.at;
  none : (k : ℕ) → l.from ≤ k → k < l.at * 64 → get_or (flags_in l.words) k false ≡ false;
}
