use Rattle.std.proofs.Common.{◌≡◌, ◌*◌, ap, ◌∙◌}
use Rattle.dds_match.specs.Network.{weighed}
use Rattle.dds_propose.specs.Tables.{cell}
use Rattle.dds_propose.proofs.Weighed.{weighed_as}
use Rattle.dds_propose.proofs.bounds.opened_by.Goals as goal

pub returns-clause-value : goal.returns-clause-value
returns-clause-value c =
    let permits = cell c.args.weights.now.permits in
    let writes = c.args.rule.now.writes.items in
    let written : c.weighed.result ≡ weighed writes permits = c.weighed.ensures.value ∙ (weighed_as _ permits ∙ ap (λ ps. weighed ps permits) c.deref.ensures.value) in
    ap (λ n. n * c.from.result) written ∙ ap (λ n. weighed writes permits * n) c.from.ensures
