use Rattle.std.proofs.Common.{sym, ◌∙◌, refl, arith}
use Rattle.dds_check.proofs.FirstLemmas.{first_below_found}
use Rattle.dds_check.proofs.below.first_below.Goals as goal

pub returns-in-Some : goal.returns-in-Some
returns-in-Some g c end f ends gives =
    let here = sym (gives c.loop-i.i c.at.result (omega arith) c.at.ensures) ∙ c.in-Some.is in
    sym (first_below_found f c.loop-i.i c.loop-i.i end c.in-Some.found refl (c.loop-i.invariant f gives) here (omega arith))
