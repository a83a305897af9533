use Rattle.std.proofs.Common.{◌/◌, ◌%◌, ◌^◌, ◌*◌, ◌==◌, false, ap, get_or, arith, w64, bit_and}
use Rattle.std.specs.Int.{bit_not}
use Rattle.std.proofs.lemmas.Nat.Bits.{bit_at_clear_same, bit_at_clear_other}
use Rattle.std.proofs.lemmas.Nat.{and_le_l}
use Rattle.dds_base.proofs.WordLaws.{flags_with, words_with}
use Rattle.dds_base.proofs.words.clear_flag.Goals as goal

pub returns-clause-flags : goal.returns-clause-flags
returns-clause-flags c =
    let word = get_or c.args.words.now (c.args.k / 64) 0 in
    let place = c.args.k % 64 in
    flags_with c.args.words.now c.args.k (bit_and word (bit_not w64 (1 * 2 ^ place % 2 ^ 64))) false c.told-words c.requires
    (ap (λ x. x == 1) (bit_at_clear_same w64 word place (omega arith)))
    (λ i low apart. bit_at_clear_other w64 word place (omega arith) i low apart)

pub returns-clause-words : goal.returns-clause-words
returns-clause-words c = λ are. words_with c.args.words.now (c.args.k / 64) (bit_and (get_or c.args.words.now (c.args.k / 64) 0) (bit_not w64 (1 * 2 ^ (c.args.k % 64) % 2 ^ 64))) (omega (arith, and_le_l (get_or c.args.words.now (c.args.k / 64) 0) (bit_not w64 (1 * 2 ^ (c.args.k % 64) % 2 ^ 64)), are.1 (c.args.k / 64))) are
