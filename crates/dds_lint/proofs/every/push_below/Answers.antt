use Rattle.std.proofs.Common.{◌++◌, ap, ◌∙◌, arith}
use Rattle.std.specs.Option.{option_to_list}
use Rattle.dds_lint.proofs.EveryLaws.{every_more}
use Rattle.dds_lint.proofs.every.push_below.Goals as goal

pub loop-i-preserved : goal.loop-i-preserved
loop-i-preserved g c f gives =
    let same = gives c.loop-i.i c.at.result (omega arith) c.at.ensures in
    every_more (λ i. option_to_list (f i)) c.loop-i.i _ _ _ (c.loop-i.invariant f gives) (c.in_ok-push_some.ensures ∙ ap (λ o. c.loop-i.items.items ++ option_to_list o) same)
