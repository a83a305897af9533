use Rattle.std.proofs.Common.{◌/◌, ◌%◌, ◌^◌, ◌*◌, ◌==◌, true, ap, get_or, arith, w64, bit_or}
use Rattle.std.proofs.lemmas.Nat.Bits.{bit_at_set_same, bit_at_set_other}
use Rattle.std.proofs.lemmas.Nat.{or_lt}
use Rattle.dds_base.proofs.WordLaws.{flags_with, words_with}
use Rattle.dds_base.proofs.words.set_flag.Goals as goal

pub returns-clause-flags : goal.returns-clause-flags
returns-clause-flags c =
    let word = get_or c.args.words.now (c.args.k / 64) 0 in
    let place = c.args.k % 64 in
    flags_with c.args.words.now c.args.k (bit_or word (1 * 2 ^ place % 2 ^ 64)) true c.told-words c.requires
    (ap (λ x. x == 1) (bit_at_set_same w64 word place (omega arith)))
    (λ i low apart. bit_at_set_other w64 word place (omega arith) i apart)

pub returns-clause-words : goal.returns-clause-words
returns-clause-words c = λ are. words_with c.args.words.now (c.args.k / 64) (bit_or (get_or c.args.words.now (c.args.k / 64) 0) (1 * 2 ^ (c.args.k % 64) % 2 ^ 64)) (or_lt 64 (get_or c.args.words.now (c.args.k / 64) 0) (1 * 2 ^ (c.args.k % 64) % 2 ^ 64) (are.1 (c.args.k / 64)) (omega arith)) are
