use Rattle.std.proofs.Common.{is_none, not, sym, ap, ◌∙◌, arith}
use Rattle.dds_match.specs.Plan.{network_of}
use Rattle.dds_runs.specs.Accepted.{row_of}
use Rattle.dds_check.proofs.Cells.{unheard, carried_by_cap, unweighed}
use Rattle.dds_check.proofs.spreads.add_reader.Goals as goal
use Rattle.dds_check.proofs.spreads.add_reader.Goals.{else-weight-gt0-via-then-weight-gt0+then-hears+else-is_none, else-weight-gt0-via-then-weight-gt0+else-hears, else-weight-gt0-via-else-weight-gt0}

pub returns-else-weight-gt0 : goal.returns-else-weight-gt0
returns-else-weight-gt0 c =
    let net = network_of c.args.plan.now in
    let row = row_of c.args.weights.now in
    let shows = c.requires.cells in
    elim c.else-weight-gt0.branch [
      | else-weight-gt0-via-then-weight-gt0+then-hears+else-is_none w ↦ carried_by_cap net row c.args.key c.args.reader c.args.cells.now shows (ap is_none (sym w.carried.ensures) ∙ ap not w.is_none.ensures ∙ ap (λ b. not (not b)) w.if-is_none.false)
      | else-weight-gt0-via-then-weight-gt0+else-hears w ↦ unheard net row c.args.key c.args.reader c.args.cells.now shows (sym w.hears.ensures ∙ w.if-hears.false)
      | else-weight-gt0-via-else-weight-gt0 w ↦ (let low = w.if-weight-gt0.false in unweighed net row c.args.key c.args.reader c.args.cells.now shows (sym c.sample-weight.ensures ∙ omega arith))
    ]
