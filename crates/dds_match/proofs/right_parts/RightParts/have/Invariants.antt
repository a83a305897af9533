use Rattle.dds_match.proofs.Parts.{IsReadBack}
use Rattle.dds_match.proofs.right_parts.RightParts.have.Given as goal

abbrev pub invariant-loop-byte : goal.invariant-loop-byte
invariant-loop-byte l =
    (goal.iterator-loop-byte).can_next l.byte-iterator ×
    (goal.iterator-loop-byte).is_finite l.byte-iterator × IsReadBack l.pattern l.self.name.now l.byte-iterator.iter.rest.now l.parts
