use Rattle.std.proofs.Common.{sym}
use Rattle.dds_match.specs.Plan.{network_of}
use Rattle.dds_flights.proofs.Adding.{adds_none, covers_none, covers_upto, key_added, key_skipped}
use Rattle.dds_flights.proofs.flights.add_reader.Goals as goal
use Rattle.dds_flights.proofs.flights.add_reader.Goals.{then-is_some+in_ok-new+in_ok-push, else-is_some+else-is_some-2}

pub loop-k-init : goal.loop-k-init
loop-k-init c = record { adds = adds_none _ _ _; covers = covers_none _ _ _ _ }

pub loop-k-preserved : goal.loop-k-preserved
loop-k-preserved c =
    let net = network_of c.args.plan.now in
    elim c.if-is_some.branch [
      | then-is_some+in_ok-new+in_ok-push w ↦ rw w.flights-is (
          let both = key_added net c.args.writer c.args.reader c.loop-k.k c.new-key.result c.cap-cap.result c.lag-lag.result w.in_ok-new.field-0 c.args.flights.now.items c.loop-k.flights.items w.push.new.self.items
          c.new-key.ensures c.cap-cap.ensures c.lag-lag.ensures w.in_ok-new.ensures w.in_ok-push.ensures.items c.loop-k.invariant.adds c.loop-k.invariant.covers in
          record { adds = both.0; covers = both.1 })
      | else-is_some+else-is_some-2 w ↦ rw w.flights-is (record {
        adds = c.loop-k.invariant.adds;
        covers = key_skipped net c.args.writer c.args.reader c.loop-k.k c.new-key.result c.cap-cap.result c.lag-lag.result c.loop-k.flights.items c.new-key.ensures c.cap-cap.ensures c.lag-lag.ensures
            (sym w.if-is_some.ensures) (sym w.if-is_some-2.ensures) c.loop-k.invariant.covers;
      })
    ]

pub returns : goal.returns
returns c = record {
  adds = c.loop-k.invariant.adds;
  covers = covers_upto (network_of c.args.plan.now) c.args.writer c.args.reader 64 c.loop-k.k c.loop-k.flights.items c.loop-k-test.false c.loop-k.invariant.covers;
}
