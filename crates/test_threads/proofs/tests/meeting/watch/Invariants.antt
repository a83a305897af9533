use Rattle.std.proofs.Common.{◌≡◌}
use Rattle.test_threads.proofs.tests.meeting.watch.Given as goal

-- the seat is one of the gauge
abbrev pub invariant-loop : goal.invariant-loop
invariant-loop g l = l.monitor.table ≡ l.gauge.table
