use Rattle.std.proofs.Common.{◌≤◌, length}
use Rattle.dds_locate.proofs.places.Places.find.Given as goal

-- what is left of the path begins the path
abbrev pub invariant-loop : goal.invariant-loop
invariant-loop l = l.left ≤ length l.bytes
