use Rattle.std.proofs.Common.{ℕ, Bool, sym, ◌∙◌}
use Rattle.std.specs.List.{list_any}
use Rattle.dds_base.specs.Section.{listed}
use Rattle.dds_lists.specs.Lists.{has}
use Rattle.dds_deploy.specs.Applications.{without_owner}
use Rattle.dds_lists.specs.Views.{application_view}
use Rattle.dds_deploy.proofs.Owners.{is_first, passed}
use Rattle.dds_deploy.proofs.applications.without_owner.Goals as goal

pub returns-then-not-is_owned : goal.returns-then-not-is_owned
returns-then-not-is_owned g c =
    let all = listed application_view c.args.applications.now in
    let owned : ℕ → Bool = λ n. list_any (λ a. has (g.E.Endpoints.owned_by a) n) all.entries in
    is_first owned c.loop-number.number c.args.count (without_owner g.E.Endpoints.owned_by all c.args.count) c.loop-number.invariant c.loop-number-test.true (sym c.is_owned.ensures ∙ c.if-not-is_owned.true)

pub loop-number-preserved : goal.loop-number-preserved
loop-number-preserved g c =
    let all = listed application_view c.args.applications.now in
    let owned : ℕ → Bool = λ n. list_any (λ a. has (g.E.Endpoints.owned_by a) n) all.entries in
    passed owned c.loop-number.number c.args.count (without_owner g.E.Endpoints.owned_by all c.args.count) c.loop-number.invariant c.loop-number-test.true (sym c.is_owned.ensures ∙ c.if-not-is_owned.false)
