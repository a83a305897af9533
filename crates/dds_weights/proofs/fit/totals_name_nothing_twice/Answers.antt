use Rattle.std.proofs.Common.{◌==◌, sym, ◌∙◌}
use Rattle.dds_weights.proofs.DistinctLaws.{distinct_more, distinct_twice}
use Rattle.dds_weights.proofs.fit.totals_name_nothing_twice.Goals as goal

pub returns-then-has_total : goal.returns-then-has_total
returns-then-has_total c =
    sym (distinct_twice (λ x y. y.reader == x.reader) c.args.totals.now c.loop-i.i c.index-totals-i.result c.loop-i-test.true c.index-totals-i.is (sym c.has_total.ensures ∙ c.if-has_total.true))

pub loop-i-preserved : goal.loop-i-preserved
loop-i-preserved c =
    distinct_more (λ x y. y.reader == x.reader) c.args.totals.now c.loop-i.i c.index-totals-i.result c.loop-i-test.true c.index-totals-i.is c.loop-i.invariant (sym c.has_total.ensures ∙ c.if-has_total.false)
