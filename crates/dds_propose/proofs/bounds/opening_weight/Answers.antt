use Rattle.std.proofs.Common.{◌≡◌, ◌*◌, length, sym, ap, ◌∙◌, arith}
use Rattle.dds_base.specs.Sums.{total}
use Rattle.dds_lists.specs.Lists.{Lists}
use Rattle.dds_match.specs.Network.{weighed}
use Rattle.dds_match.specs.Plan.{network_of}
use Rattle.dds_check.proofs.Grid.{pairs_opened}
use Rattle.dds_check.proofs.Plans.{writes_in}
use Rattle.dds_propose.specs.Tables.{cell}
use Rattle.dds_propose.proofs.bounds.opening_weight.Goals as goal

pub returns-clause-value : goal.returns-clause-value
returns-clause-value c =
    let net = network_of c.args.plan.now in
    let permits = cell c.args.weights.now.permits in
    let listed : length c.lists.result.now.rules.entries ≡ net.rules = ap (λ (d : Lists). length d.rules.entries) c.lists.ensures.value in
    let whole : c.loop-u.u ≡ net.rules = omega arith in
    c.loop-u.invariant.0
    ∙ ap (λ n. total n (λ u. weighed (net.rule u).writes permits * (net.rule u).start)) whole
    ∙ sym (pairs_opened net.writers 64 permits (λ u. (net.rule u).writes) (λ u. (net.rule u).start) net.rules (λ u l. writes_in c.args.plan.now u c.lists.ensures.well_formed))
