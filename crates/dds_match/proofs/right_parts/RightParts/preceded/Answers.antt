use Rattle.std.proofs.Common.{◌∷◌, sym, subst}
use Rattle.dds_match.specs.RightParts.{ArePartsWith}
use Rattle.dds_match.proofs.Parts.{star_parts, byte_parts}
use Rattle.dds_match.proofs.right_parts.RightParts.preceded.Goals as goal

pub returns-then-byte-eq42 : goal.returns-then-byte-eq42
returns-then-byte-eq42 c pattern are = subst (λ b. ArePartsWith (b ∷ pattern) c.args.self.now.name.now c.or_longer.result) (sym c.if-byte-eq42.true)
    (star_parts c.args.parts c.or_longer.result pattern c.args.self.now.name.now c.args.self.now.short c.or_longer.ensures are)

pub returns-else-byte-eq42 : goal.returns-else-byte-eq42
returns-else-byte-eq42 c pattern are = byte_parts c.args.byte c.args.parts _ pattern c.args.self.now.name.now c.args.self.now.short c.if-byte-eq42.false
    (λ k low. c.args.self.now.beginnings_are c.args.byte k c.ranges.byte.fits low) are
