use Rattle.std.proofs.Common.{◌≡◌, false, take}
use Rattle.dds_reader.specs.Marks.{in_marks}
use Rattle.test_forms.proofs.marks.end_of.Given as goal

abbrev pub invariant-loop-m : goal.invariant-loop-m
invariant-loop-m l = in_marks (take l.m-index l.marks) l.writer l.n ≡ false
