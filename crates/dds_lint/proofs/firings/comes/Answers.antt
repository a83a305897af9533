use Rattle.std.proofs.Common.{◌≡◌, ◌∙◌, ◌*◌, ◌+◌, ◌<◌, ap, arith, rules, slice_index, true}
use Rattle.dds_match.specs.Plan.{network_of}
use Rattle.dds_lint.specs.Firings.{capped}
use Rattle.dds_lint.proofs.FiringLaws.{heard_few}
use Rattle.dds_lint.proofs.firings.comes.Goals as goal

pub bounds-cells-place : goal.bounds-cells-place
bounds-cells-place c =
    let heard : (network_of c.args.plan.now).hears c.args.reader c.args.key ≡ true = search rules in
    let known = c.assert_well_formed.ensures.network in
    let row = known.heard_reader c.args.reader c.args.key heard in
    let column = known.heard_key c.args.reader c.args.key heard in
    let few = c.readers_of.ensures.few in
    let count = c.readers_of.ensures.count in
    let at = c.number-row.ensures in
    let key = c.number-column.ensures in
    let len = c.requires in
    omega (arith, row, column, few, count, len, at, key)

pub returns : goal.returns
returns c =
    let heard : (network_of c.args.plan.now).hears c.args.reader c.args.key ≡ true = search rules in
    rw (c.number-row.ensures, c.number-column.ensures, heard) (heard_few (slice_index c.args.cells.now (c.args.reader * 64 + c.args.key)) (search rules))
