use Rattle.std.proofs.Common.{◌≡◌, ◌-◌, ◌≤◌, not}
use Rattle.dds_base.specs.Counts.{count_between}
use Rattle.dds_reader.specs.Marks.{in_marks}
use Rattle.test_forms.proofs.marks.count_unmarked.Given as goal

abbrev pub invariant-loop-at : goal.invariant-loop-at
invariant-loop-at l = record {
  low : l.from ≤ l.at;
  high : l.at ≤ l.until;
  small : l.count ≤ l.at - l.from;
  exact : l.count ≡ count_between (λ n. not (in_marks l.marks l.writer n)) l.from l.at;
}

abbrev pub decreases-loop-at : goal.decreases-loop-at
decreases-loop-at l = l.until - l.at
