use Rattle.std.proofs.Common.{◌≡◌, length}
use Rattle.dds_tool.proofs.running.steadies.Given as goal

-- one for each application so far
abbrev pub invariant-loop-app : goal.invariant-loop-app
invariant-loop-app l = length l.apps.items ≡ l.app
