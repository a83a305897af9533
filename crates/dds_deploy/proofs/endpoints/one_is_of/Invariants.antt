use Rattle.std.proofs.Common.{◌≡◌, drop}
use Rattle.std.specs.Prelude.{◌==◌, ◌&&◌}
use Rattle.std.specs.List.{list_any}
use Rattle.dds_deploy.proofs.endpoints.one_is_of.Given as goal

abbrev pub invariant-loop-portion : goal.invariant-loop-portion
invariant-loop-portion g l =
    list_any (λ x. g.N.Endpoint.number_of x.endpoint == l.number && x.key == l.key) (drop l.portion-index l.portions) ≡ list_any (λ x. g.N.Endpoint.number_of x.endpoint == l.number && x.key == l.key) l.portions
