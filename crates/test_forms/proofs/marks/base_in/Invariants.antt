use Rattle.std.proofs.Common.{◌≡◌, ℕ, ◌+◌, ◌-◌, ◌<◌, ◌≤◌, true}
use Rattle.dds_base.specs.Sets.{last_number}
use Rattle.dds_reader.specs.Marks.{in_marks}
use Rattle.test_forms.proofs.marks.base_in.Given as goal

abbrev pub invariant-loop-end : goal.invariant-loop-end
invariant-loop-end l = record {
  low : 1 ≤ l.at;
  high : l.at ≤ last_number + 1;
  least : (k : ℕ) → 1 ≤ k → k < l.at → in_marks l.marks l.writer k ≡ true;
}

abbrev pub decreases-loop-end : goal.decreases-loop-end
decreases-loop-end l = last_number + 1 - l.at
