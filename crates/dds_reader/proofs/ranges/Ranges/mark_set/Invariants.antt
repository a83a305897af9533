use Rattle.std.proofs.Common.{◌≡◌, ℕ, ◌+◌, ◌<◌, ◌≤◌, ◌&&◌, ◌||◌, not, ltb, true}
use Rattle.dds_base.specs.Counts.{count_between}
use Rattle.dds_base.specs.Sets.{has as has_number, last_number}
use Rattle.dds_reader.specs.Ranges.{has}
use Rattle.dds_reader.proofs.ranges.Ranges.mark_set.Given as goal

abbrev pub invariant-loop-i : goal.invariant-loop-i
invariant-loop-i l = record {
  marks : (m : ℕ) → has l.self.base l.self.above m ≡ (has l.initial.self.base l.initial.self.above m || (has_number l.set m && ltb m (l.set.base + l.i)));
  count : l.count ≡ count_between (λ m. has_number l.set m && not (has l.initial.self.base l.initial.self.above m)) l.set.base (l.set.base + l.i);
  small : l.count ≤ l.i;
  numbers : (m : ℕ) → m < l.set.base + l.i → has_number l.set m ≡ true → m ≤ last_number;
}
