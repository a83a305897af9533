use Rattle.std.proofs.Common.{◌≡◌, ◌==◌, ℕ, false, take}
use Rattle.std.specs.List.{list_any}
use Rattle.std.specs.Ordering.{nat_cmp}
use Rattle.std.specs.BTreeMap.{IsOrdered}
use Rattle.dds_reader.specs.Marks.{listed, in_marks, has_marks}
use Rattle.dds_reader.proofs.marks.Marks.new.Given as goal

abbrev pub invariant-loop-writer : goal.invariant-loop-writer
invariant-loop-writer l = record {
  ordered : IsOrdered nat_cmp l.of;
  unmarked : (w n : ℕ) → in_marks (listed l.of) w n ≡ false;
  writers : (w : ℕ) → has_marks w (listed l.of) ≡ list_any (λ v. v == w) (take l.writer-index l.writers);
}
