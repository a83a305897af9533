use Rattle.std.proofs.Common.{◌≡◌, length}
use Rattle.dds_tool.proofs.running.run_steadies.Given as goal

-- one for each so far
abbrev pub invariant-loop-steady : goal.invariant-loop-steady
invariant-loop-steady g l = length l.apps.items ≡ length l.yielded
