use Rattle.std.proofs.Common.{◌≡◌, drop}
use Rattle.std.specs.Prelude.{is_some}
use Rattle.std.specs.List.{list_all}
use Rattle.dds_base.specs.Section.{listed}
use Rattle.dds_lists.specs.Views.{topic_view}
use Rattle.dds_deploy.proofs.expansion.all_have.Given as goal

abbrev pub invariant-loop-share : goal.invariant-loop-share
invariant-loop-share g l =
    let key = g.E.Endpoints.key_at l.endpoints (listed topic_view l.topics) l.name in
    list_all (λ x. is_some (key (g.E.Number.Endpoint.number_of x.0))) (drop l.share-index l.shares) ≡ list_all (λ x. is_some (key (g.E.Number.Endpoint.number_of x.0))) l.shares
