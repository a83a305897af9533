use Rattle.std.proofs.Common.{◌≡◌}
use Rattle.dds_conform.specs.Windows.{HasSameSpan, IsWindow, Kept}
use Rattle.dds_conform.proofs.breaches.first_in.Given as goal

-- the window is at the entry, and those before it keep the span
abbrev pub invariant-loop-at : goal.invariant-loop-at
invariant-loop-at l = record {
  span : HasSameSpan l.fn.window l.window;
  window : IsWindow l.plan l.entries l.times l.at l.window;
  kept : Kept l.plan l.entries l.times l.fn.window.reader l.fn.window.within l.at;
}
