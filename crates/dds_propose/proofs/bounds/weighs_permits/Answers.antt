use Rattle.std.proofs.Common.{◌==◌, ℕ, Bool, not, ap, ◌∙◌}
use Rattle.std.specs.List.{list_any}
use Rattle.dds_match.specs.Plan.{network_of}
use Rattle.dds_propose.specs.Tables.{row_of}
use Rattle.dds_check.proofs.AnyBelow.{any_matched}
use Rattle.dds_propose.proofs.bounds.weighs_permits.Goals as goal

pub returns : goal.returns
returns c =
    let weighs : ℕ → Bool = λ w. not ((row_of c.args.weights.now).permits w c.args.key == 0) in
    c.weighs_one.ensures ∙ ap (list_any weighs) c.writers_of.ensures ∙ any_matched (network_of c.args.plan.now) c.args.reader weighs
