use Rattle.std.proofs.Common.{◌≡◌, IsSome}
use Rattle.test_threads.proofs.tests.gauge.bump_often.Given as goal

-- the seat stays an owner's of this gauge
abbrev pub invariant-loop : goal.invariant-loop
invariant-loop l = record {
  gauge : l.seat.table ≡ l.gauge.table;
  owner : IsSome l.seat.owner;
}
