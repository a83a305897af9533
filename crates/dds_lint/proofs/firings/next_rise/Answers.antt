use Rattle.std.proofs.Common.{◌≡◌, ◌∙◌, ap, arith, inl, inr, slice_index, subst, sym}
use Rattle.std.proofs.lemmas.Bool.{cases_eq}
use Rattle.dds_match.specs.Plan.{network_of}
use Rattle.dds_lint.specs.Firings.{IsWithin, can_fire_by}
use Rattle.dds_lint.proofs.FiringLaws.{fires_as}
use Rattle.dds_lint.proofs.firings.next_rise.Goals as goal

pub returns-in-Some-clause-fires : goal.returns-in-Some-clause-fires
returns-in-Some-clause-fires c =
    let net = network_of c.args.plan.now in
    sym (fires_as net (slice_index c.args.limits.now) c.args.cells.now c.assert_well_formed.ensures.network (omega arith) c.requires c.loop-u.u c.in-Some.firings)
    ∙ (ap (λ j. can_fire_by net c.args.cells.now j c.in-Some.firings) (sym c.new.ensures) ∙ c.in-Some.ensures.fires)

pub loop-u-preserved : goal.loop-u-preserved
loop-u-preserved c = λ v below.
    let net = network_of c.args.plan.now in
    elim (cases_eq v c.loop-u.u) [
      | inl same ↦ subst (IsWithin net (slice_index c.args.limits.now)) (sym same) (λ n few fires.
          c.in_default.ensures.none n few (ap (λ j. can_fire_by net c.args.cells.now j n) c.new.ensures
          ∙ (fires_as net (slice_index c.args.limits.now) c.args.cells.now c.assert_well_formed.ensures.network (omega arith) c.requires c.loop-u.u n ∙ fires)))
      | inr apart ↦ c.loop-u.invariant v (omega (arith, below, apart))
    ]
