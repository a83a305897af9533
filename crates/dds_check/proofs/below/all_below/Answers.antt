use Rattle.std.proofs.Common.{◌≡◌, ◌∙◌, false, sym, arith, rules}
use Rattle.dds_check.proofs.FirstLemmas.{all_below_fails}
use Rattle.dds_check.proofs.below.all_below.Goals as goal

pub returns-then-not-passes : goal.returns-then-not-passes
returns-then-not-passes g c end f ends gives =
    let failed : c.passes.result ≡ false = search rules in
    let here : f c.loop-i.i ≡ false = sym (gives c.loop-i.i c.passes.result (omega arith) c.passes.ensures) ∙ failed in
    sym (all_below_fails end f c.loop-i.i (omega arith) here)
