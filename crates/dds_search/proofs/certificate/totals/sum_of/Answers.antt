use Rattle.std.proofs.Common.{Some}
use Rattle.dds_search.specs.Sizes.{sum_of}
use Rattle.dds_search.proofs.Summed.{last_summed, next_summed}
use Rattle.dds_search.proofs.certificate.totals.sum_of.Goals as goal

pub loop-size-preserved : goal.loop-size-preserved
loop-size-preserved c =
    next_summed c.args.reader c.loop-size.sum _ (sum_of c.args.reader (Some 0) c.args.sizes.now) c.args.sizes.now c.loop-size.size-index c.size-item.result c.loop-size-test.true c.size-item.is
    c.with_size-sum.ensures c.loop-size.invariant

pub returns : goal.returns
returns c = last_summed c.args.reader c.loop-size.sum (sum_of c.args.reader (Some 0) c.args.sizes.now) c.args.sizes.now c.loop-size.size-index c.loop-size-test.false c.loop-size.invariant
