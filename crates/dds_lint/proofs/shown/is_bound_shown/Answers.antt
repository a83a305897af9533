use Rattle.std.proofs.Common.{Some, sym, ap, ◌∙◌, false}
use Rattle.std.specs.Option.{option_map_or}
use Rattle.dds_match.specs.Plan.{network_of}
use Rattle.dds_runs.specs.Accepted.{row_of}
use Rattle.dds_check.specs.Shown.{shows}
use Rattle.dds_lint.proofs.shown.is_bound_shown.Goals as goal

pub shows-requires : goal.shows-requires
shows-requires c = c.requires.opened c.args.bound.now.row _ (sym c.in-Some.ensures ∙ ap Some (sym c.new-weights.ensures))

pub returns-in-Some : goal.returns-in-Some
returns-in-Some c = c.shows.ensures ∙ ap (λ o. option_map_or (λ row. shows (network_of c.args.plan.now) (row_of row) c.args.bound.now.bound c.args.bound.now.reader c.args.bound.now.key) o false) (ap Some c.new-weights.ensures ∙ c.in-Some.ensures)

pub returns-in-None : goal.returns-in-None
returns-in-None c = ap (λ o. option_map_or (λ row. shows (network_of c.args.plan.now) (row_of row) c.args.bound.now.bound c.args.bound.now.reader c.args.bound.now.key) o false) c.in-None.ensures
