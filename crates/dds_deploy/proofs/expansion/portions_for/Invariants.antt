use Rattle.std.proofs.Common.{◌≡◌, map, take}
use Rattle.dds_base.specs.Section.{listed}
use Rattle.dds_deploy.specs.Expansion.{portion_at}
use Rattle.dds_lists.specs.Views.{topic_view}
use Rattle.dds_deploy.proofs.expansion.portions_for.Given as goal

abbrev pub invariant-loop-share : goal.invariant-loop-share
invariant-loop-share g l =
    let key = g.E.Endpoints.key_at l.endpoints (listed topic_view l.topics) l.name in
    l.portions.items ≡ map (portion_at (λ e. key (g.E.Number.Endpoint.number_of e))) (take l.share-index l.shares)
