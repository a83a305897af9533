use Rattle.std.proofs.Common.{Some, sym, ap, ◌∙◌, false}
use Rattle.std.specs.Option.{option_map_or}
use Rattle.dds_match.specs.Plan.{network_of}
use Rattle.dds_runs.specs.Accepted.{row_of}
use Rattle.dds_check.specs.Shown.{shows_all}
use Rattle.dds_check.proofs.shown.is_total_shown.Goals as goal

pub shows_all-requires : goal.shows_all-requires
shows_all-requires c = c.requires.opened c.args.total.now.row _ (sym c.in-Some.ensures ∙ ap Some (sym c.new-weights.ensures))

pub returns-in-Some : goal.returns-in-Some
returns-in-Some c = c.shows_all.ensures ∙ ap (λ o. option_map_or (λ row. shows_all (network_of c.args.plan.now) (row_of row) c.args.total.now) o false) (ap Some c.new-weights.ensures ∙ c.in-Some.ensures)

pub returns-in-None : goal.returns-in-None
returns-in-None c = ap (λ o. option_map_or (λ row. shows_all (network_of c.args.plan.now) (row_of row) c.args.total.now) o false) c.in-None.ensures
