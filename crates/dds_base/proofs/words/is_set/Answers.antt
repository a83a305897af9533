use Rattle.std.proofs.Common.{◌/◌, ◌%◌, ap, sym, ◌∙◌, get_or, ◌==◌}
use Rattle.std.proofs.lemmas.Nat.Bits.{shr_and_one}
use Rattle.dds_base.specs.WordLaws.{get-flags_in}
use Rattle.dds_base.proofs.words.is_set.Goals as goal

pub returns : goal.returns
returns c = ap (λ b. b == 1) (shr_and_one (get_or c.args.words.now (c.args.k / 64) 0) (c.args.k % 64)) ∙ sym (get-flags_in c.args.words.now c.args.k c.requires)
