use Rattle.std.proofs.Common.{◌≡◌, length, take}
use Rattle.std.specs.Str.Lines.{lines}
use Rattle.dds_conform.specs.Reading.{AreEntries}
use Rattle.dds_conform.proofs.reading.push_lines.Given as goal

-- the entries of the lines so far
abbrev pub invariant-loop-line : goal.invariant-loop-line
invariant-loop-line l = record {
  count : l.number ≡ length l.yielded;
  entries : AreEntries l.plan (take (length l.yielded) (lines l.text)) l.entries.items;
}
