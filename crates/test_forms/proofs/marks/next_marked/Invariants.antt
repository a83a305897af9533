use Rattle.std.proofs.Common.{◌≡◌, ℕ, ◌<◌, ◌≤◌, false, take}
use Rattle.dds_reader.specs.Marks.{in_marks}
use Rattle.test_forms.proofs.marks.next_marked.Given as goal

abbrev pub invariant-loop-m : goal.invariant-loop-m
invariant-loop-m l = record {
  further : l.n < l.next;
  within : l.next ≤ l.limit;
  free : (k : ℕ) → l.n ≤ k → k < l.next → in_marks (take l.m-index l.marks) l.writer k ≡ false;
}
