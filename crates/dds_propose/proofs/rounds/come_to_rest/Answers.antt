use Rattle.dds_match.specs.Plan.{network_of}
use Rattle.dds_propose.specs.Relaxation.{opening, round, rounds, seen}
use Rattle.dds_propose.specs.Tables.{row_of}
use Rattle.dds_propose.proofs.OneRound.{rounds_none, rounds_more, round_same, same_back, same_then}
use Rattle.dds_propose.proofs.rounds.come_to_rest.Goals as goal

pub loop-count-init : goal.loop-count-init
loop-count-init c = record {
  made = c.requires.made;
  same = rounds_none (seen c.args.carrying (network_of c.args.plan.now)) (opening (seen c.args.carrying (network_of c.args.plan.now)) c.args.target.now) (row_of c.args.weights.now) c.requires.opened;
}

pub loop-count-preserved : goal.loop-count-preserved
loop-count-preserved c =
    let net = seen c.args.carrying (network_of c.args.plan.now) in
    let round = c.in_ok-round.ensures in
    record {
      made = round.made;
      same = rounds_more net (opening net c.args.target.now) (row_of c.loop-count.weights) (row_of c.round.new.weights) c.loop-count.count c.loop-count.invariant.same round.same;
    }

pub returns-then-not-branch : goal.returns-then-not-branch
returns-then-not-branch c =
    let net = seen c.args.carrying (network_of c.args.plan.now) in
    let old = row_of c.loop-count.weights in
    let new = row_of c.round.new.weights in
    let made = c.in_ok-round.ensures in
    let back = made.still c.if-not-branch.true in
    record {
      count = c.loop-count.count;
      few = c.loop-count-test.true;
      reached = same_then new old (rounds net (opening net c.args.target.now) c.loop-count.count) back c.loop-count.invariant.same;
      still = same_then (round net new) (round net old) new (round_same net new old back) (same_back new (round net old) made.same);
    }
