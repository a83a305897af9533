use Rattle.std.proofs.Common.{◌≡◌, ◌<◌, arith, rules, true}
use Rattle.dds_match.specs.Plan.{network_of}
use Rattle.dds_lint.proofs.FiringLaws.{write_added, write_elsewhere}
use Rattle.dds_lint.proofs.firings.add_write.Goals as goal

pub returns-clause-added : goal.returns-clause-added
returns-clause-added c = λ k low.
    let key = c.number-key.ensures in
    let below : c.args.write.now.key < 64 = omega (arith, key) in
    let matched : (network_of c.args.plan.now).matched c.args.write.now.endpoint c.args.reader ≡ true = search rules in
    rw (c.number-row.ensures, c.number-key.ensures)
    (write_added (network_of c.args.plan.now) c.args.cells.now c.args.reader c.args.write.now c.args.times c.capped_sum.result c.requires.reader c.requires.len below matched
    (rw (c.number-row.ensures, c.number-key.ensures, c.product.ensures.value) at c.capped_sum.ensures) k low)

pub returns-clause-others : goal.returns-clause-others
returns-clause-others c = λ q k apart low.
    let key = c.number-key.ensures in
    let below : c.args.write.now.key < 64 = omega (arith, key) in
    rw (c.number-row.ensures, c.number-key.ensures) (write_elsewhere c.args.cells.now c.args.reader q c.args.write.now.key k c.capped_sum.result below low apart)
