use Rattle.std.proofs.Common.{◌≡◌, ◌-◌, not}
use Rattle.std.specs.List.{find, list_any, range_with_len}
use Rattle.dds_base.specs.Section.{listed}
use Rattle.dds_lists.specs.Lists.{has}
use Rattle.dds_deploy.specs.Applications.{without_owner}
use Rattle.dds_lists.specs.Views.{application_view}
use Rattle.dds_deploy.proofs.applications.without_owner.Given as goal

abbrev pub invariant-loop-number : goal.invariant-loop-number
invariant-loop-number g l =
    let all = listed application_view l.applications in
    find (λ n. not (list_any (λ a. has (g.E.Endpoints.owned_by a) n) all.entries)) (range_with_len l.number (l.count - l.number)) ≡ without_owner g.E.Endpoints.owned_by all l.count
