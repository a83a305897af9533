use Rattle.std.proofs.Common.{◌≡◌, drop}
use Rattle.std.specs.Prelude.{◌==◌}
use Rattle.std.specs.List.{list_any}
use Rattle.dds_deploy.proofs.endpoints.one_is_at.Given as goal

abbrev pub invariant-loop-share : goal.invariant-loop-share
invariant-loop-share g l = list_any (λ x. g.N.Endpoint.number_of x.0 == l.number) (drop l.share-index l.shares) ≡ list_any (λ x. g.N.Endpoint.number_of x.0 == l.number) l.shares
