use Rattle.std.proofs.Common.{ap, ◌∙◌, ◌==◌}
use Rattle.std.proofs.lemmas.Nat.Bits.{bit_at_or}
use Rattle.dds_match.proofs.Parts.{bit_of_either, least_is}
use Rattle.dds_match.proofs.right_parts.or_longer.Goals as goal

pub returns : goal.returns
returns c k within = ap (λ b. b == 1) (bit_at_or c.args.parts c.wrapping_neg.result k ∙ bit_of_either c.args.parts c.wrapping_neg.result 128 k c.wrapping_neg.ensures within) ∙ least_is _
