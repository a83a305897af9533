use Rattle.std.proofs.Common.{◌≡◌, ◌+◌, ◌&&◌, ltb}
use Rattle.dds_base.specs.Sets.{set_of}
use Rattle.dds_reader.specs.Marks.{in_marks, is_wanted}
use Rattle.test_forms.proofs.marks.missing.Given as goal

abbrev pub invariant-loop-i : goal.invariant-loop-i
invariant-loop-i l = l.set ≡ set_of l.base (λ n. ltb n (l.base + l.i) && is_wanted (in_marks l.marks l.writer) l.heard n)
