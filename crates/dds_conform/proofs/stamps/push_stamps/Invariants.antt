use Rattle.std.proofs.Common.{◌≡◌, length}
use Rattle.std.specs.Str.Lines.{lines}
use Rattle.dds_conform.specs.Stamps.{AreStamps}
use Rattle.dds_conform.proofs.stamps.push_stamps.Given as goal

-- the times of the lines so far
abbrev pub invariant-loop-line : goal.invariant-loop-line
invariant-loop-line l = record {
  count : l.number ≡ length l.yielded;
  stamps : AreStamps (lines l.text) (length l.yielded) l.times.items l.lacking;
}
