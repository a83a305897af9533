use Rattle.std.proofs.Common.{◌≡◌, length}
use Rattle.dds_match.proofs.Parts.{StandUpTo}
use Rattle.dds_match.proofs.right_parts.RightParts.of.Given as goal

abbrev pub invariant-loop-at : goal.invariant-loop-at
invariant-loop-at l = (length l.beginnings ≡ 256) × StandUpTo l.name l.beginnings l.at
