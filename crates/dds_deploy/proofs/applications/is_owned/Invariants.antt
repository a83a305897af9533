use Rattle.std.proofs.Common.{◌≡◌, drop, map}
use Rattle.std.specs.List.{list_any}
use Rattle.dds_lists.specs.Lists.{has}
use Rattle.dds_lists.specs.Views.{application_view}
use Rattle.dds_deploy.proofs.applications.is_owned.Given as goal

abbrev pub invariant-loop-application : goal.invariant-loop-application
invariant-loop-application g l =
    list_any (λ a. has (g.E.Endpoints.owned_by a) l.number) (map application_view (drop l.application-index l.applications.entries.items)) ≡ list_any (λ a. has (g.E.Endpoints.owned_by a) l.number) (map application_view l.applications.entries.items)
