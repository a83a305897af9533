use Rattle.std.proofs.Common.{◌*◌, ◌^◌, ◌<◌, arith}
use Rattle.dds_lint.proofs.FiringLaws.{product_small}
use Rattle.dds_lint.proofs.firings.product.Goals as goal

pub overflow_mul-product : goal.overflow_mul-product
overflow_mul-product c =
    let count = c.ranges.count.fits in
    let times = c.ranges.times.fits in
    let one = c.from.ensures in
    let two = c.from-2.ensures in
    let small : c.from.result * c.from-2.result < 2 ^ 60 = product_small c.from.result c.from-2.result (omega (arith, one, count)) (omega (arith, two, times)) in
    omega (arith, small)

pub returns-clause-small : goal.returns-clause-small
returns-clause-small c =
    let count = c.ranges.count.fits in
    let times = c.ranges.times.fits in
    let one = c.from.ensures in
    let two = c.from-2.ensures in
    product_small c.from.result c.from-2.result (omega (arith, one, count)) (omega (arith, two, times))
