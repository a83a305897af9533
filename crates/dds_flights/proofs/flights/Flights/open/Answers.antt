use Rattle.std.proofs.Common.{◌≡◌, false, sym, ap, subst, ◌∙◌}
use Rattle.dds_match.specs.Plan.{network_of}
use Rattle.dds_flights.specs.Standing.{AddsReader, has_span}
use Rattle.dds_flights.proofs.Adding.{below_more, below_skip, no_caps, no_lags}
use Rattle.dds_flights.proofs.flights.Flights.open.Goals as goal
use Rattle.dds_flights.proofs.flights.Flights.open.Goals.{then-has_span+in_ok-add_reader, else-has_span}

pub loop-r-preserved : goal.loop-r-preserved
loop-r-preserved c =
    let net = network_of c.args.plan.now in
    let number = c.new-reader.ensures in
    elim c.if-has_span.branch [
      | then-has_span+in_ok-add_reader w ↦ rw w.flights-is (
          let adds = subst (λ r. AddsReader net c.args.writer r c.loop-r.flights.items w.add_reader.new.flights.items) number w.in_ok-add_reader.ensures in
          record { each = adds.adds.each c.loop-r.invariant.each; covers = below_more net c.args.writer c.assert_well_formed.ensures.network c.loop-r.r _ _ adds c.loop-r.invariant.covers })
      | else-has_span w ↦ rw w.flights-is (
          let none : has_span c.args.plan.now c.loop-r.r ≡ false = ap (has_span c.args.plan.now) (sym number) ∙ sym w.if-has_span.ensures in
          record { each = c.loop-r.invariant.each; covers = below_skip net c.args.writer c.loop-r.r _ (no_caps c.args.plan.now c.args.writer c.loop-r.r none) (no_lags c.args.plan.now c.args.writer c.loop-r.r none) c.loop-r.invariant.covers })
    ]
