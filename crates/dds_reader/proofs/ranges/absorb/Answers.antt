use Rattle.std.proofs.Common.{arith, sym}
use Rattle.dds_base.proofs.CountLaws.{count_empty}
use Rattle.dds_reader.proofs.AbsorbLaws.{left_start, left_step, joined_start, joined_step, count_step, absorbed}
use Rattle.dds_reader.proofs.ranges.absorb.Goals as goal

pub loop-from-init : goal.loop-from-init
loop-from-init c = record {
  ordered = c.requires.ordered;
  low = omega arith;
  high = c.requires.order;
  further = omega arith;
  left = left_start c.args.ranges.now c.args.key c.args.start c.requires.above;
  joined = joined_start c.args.ranges.now c.args.key c.args.until;
  small = omega arith;
  count = λ p t. sym (count_empty p c.args.start);
}

pub loop-from-preserved-then-end-to : goal.loop-from-preserved-then-end-to
loop-from-preserved-then-end-to c =
    let inv = c.loop-from.invariant in
    let f = c.in-Some.ensures in
    let here = inv.left.left c.in-Some.from c.in-Some.to f.after f.there in
    let range = c.requires.above.each c.in-Some.from c.in-Some.to here.0 f.after in
    record {
      ordered = c.remove.ensures.ordered;
      low = omega (arith, here.1, range.1);
      high = omega arith;
      further = omega (arith, inv.further);
      left = left_step c.args.ranges.now c.loop-from.ranges c.remove.new.self c.args.key c.args.start c.loop-from.at c.loop-from.end c.in-Some.from c.in-Some.to c.requires.above inv.left f c.remove.ensures.updates;
      joined = joined_step c.args.ranges.now c.args.key c.args.until c.loop-from.end c.in-Some.from c.in-Some.to inv.joined here.0 f.after f.upto;
      small = omega (arith, here.1, range.1, inv.small, inv.low);
      count = λ p t. count_step c.args.ranges.now c.loop-from.ranges c.args.key c.args.start c.loop-from.at c.loop-from.end c.in-Some.from c.in-Some.to c.loop-from.known p c.requires.above inv.left f t inv.low (inv.count p t);
    }

pub loop-from-preserved : goal.loop-from-preserved
loop-from-preserved c =
    let inv = c.loop-from.invariant in
    let f = c.in-Some.ensures in
    let here = inv.left.left c.in-Some.from c.in-Some.to f.after f.there in
    let range = c.requires.above.each c.in-Some.from c.in-Some.to here.0 f.after in
    record {
      ordered = c.remove.ensures.ordered;
      low = omega (arith, here.1, range.1);
      high = omega arith;
      further = inv.further;
      left = left_step c.args.ranges.now c.loop-from.ranges c.remove.new.self c.args.key c.args.start c.loop-from.at c.loop-from.end c.in-Some.from c.in-Some.to c.requires.above inv.left f c.remove.ensures.updates;
      joined = inv.joined;
      small = omega (arith, here.1, range.1, inv.small, inv.low);
      count = λ p t. count_step c.args.ranges.now c.loop-from.ranges c.args.key c.args.start c.loop-from.at c.loop-from.end c.in-Some.from c.in-Some.to c.loop-from.known p c.requires.above inv.left f t inv.low (inv.count p t);
    }

pub returns : goal.returns
returns c =
    let inv = c.loop-from.invariant in
    absorbed c.args.ranges.now c.loop-from.ranges c.args.key c.args.start c.args.until c.loop-from.at c.loop-from.end c.loop-from.known inv.ordered inv.low inv.high inv.further inv.left c.in_default.ensures inv.joined inv.count inv.small
