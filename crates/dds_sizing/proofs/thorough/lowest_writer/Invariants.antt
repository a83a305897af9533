use Rattle.std.proofs.Common.{ℕ, IfSome}
use Rattle.dds_match.specs.Plan.{network_of}
use Rattle.dds_sizing.specs.Missing.{IsDepthFor}
use Rattle.dds_sizing.proofs.thorough.lowest_writer.Given as goal

-- what was found so far is a writer with a depth
abbrev pub invariant-loop-w : goal.invariant-loop-w
invariant-loop-w l = IfSome l.found (λ w. (depth : ℕ) × IsDepthFor (network_of l.plan) w l.reader l.key depth)
