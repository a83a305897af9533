use Rattle.std.proofs.Common.{◌-◌}
use Rattle.dds_conform.specs.Windows.{HasSameSpan, IsWindow}
use Rattle.dds_conform.proofs.windows.Window.advance.Given as goal

-- the window is at the entry
abbrev pub invariant-loop-self : goal.invariant-loop-self
invariant-loop-self l = record {
  span : HasSameSpan l.fn.self l.self;
  window : IsWindow l.plan l.entries l.times l.at l.self;
}

abbrev pub decreases-loop-self : goal.decreases-loop-self
decreases-loop-self l = l.at - l.self.passed
