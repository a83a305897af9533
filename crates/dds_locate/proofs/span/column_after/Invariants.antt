use Rattle.std.proofs.Common.{◌≡◌, ◌≤◌, ◌+◌, take}
use Rattle.dds_locate.specs.Spans.{column_after}
use Rattle.dds_locate.proofs.span.column_after.Given as goal

-- the column after the bytes so far, and no more than these come before it
abbrev pub invariant-loop-byte : goal.invariant-loop-byte
invariant-loop-byte l = record {
  is : l.column ≡ column_after (take l.byte-index l.before);
  few : l.column ≤ l.byte-index + 1;
}
