use Rattle.std.proofs.Common.{◌≡◌, ◌*◌, sym, ap, ◌∙◌, arith}
use Rattle.dds_base.specs.Sums.{total}
use Rattle.dds_match.specs.Network.{weighed}
use Rattle.dds_match.specs.Plan.{network_of}
use Rattle.dds_runs.specs.Accepted.{row_of}
use Rattle.dds_check.proofs.Grid.{pairs_opened}
use Rattle.dds_check.proofs.Plans.{writes_in}
use Rattle.dds_check.proofs.budget.opening_weight.Goals as goal

pub returns-clause-value : goal.returns-clause-value
returns-clause-value c =
    let net = network_of c.args.plan.now in
    let d = (row_of c.args.weights.now).permits in
    let whole : c.loop-u.u ≡ net.rules = omega arith in
    c.loop-u.invariant.0
    ∙ ap (λ n. total n (λ u. weighed (net.rule u).writes d * (net.rule u).start)) whole
    ∙ sym (pairs_opened net.writers 64 d (λ u. (net.rule u).writes) (λ u. (net.rule u).start) net.rules (λ u l. writes_in c.args.plan.now u c.rules_of-u-end.ensures.well_formed))
