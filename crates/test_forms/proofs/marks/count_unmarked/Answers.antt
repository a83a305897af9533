use Rattle.std.proofs.Common.{arith}
use Rattle.dds_reader.specs.Marks.{in_marks}
use Rattle.test_forms.proofs.CountLaws.{counted_none, counted_marked, counted_free}
use Rattle.test_forms.proofs.marks.count_unmarked.Goals as goal

pub loop-at-init : goal.loop-at-init
loop-at-init c = record {
  low = omega arith;
  high = omega arith;
  small = omega arith;
  exact = counted_none (λ n. in_marks c.args.marks.now c.args.writer n) c.args.from;
}

pub loop-at-preserved-then-end-until : goal.loop-at-preserved-then-end-until
loop-at-preserved-then-end-until c =
    let inv = c.loop-at.invariant in
    let ends = c.in-Some.ensures in
    record {
      low = omega arith;
      high = omega arith;
      small = omega arith;
      exact = counted_marked (λ n. in_marks c.args.marks.now c.args.writer n) c.args.from c.loop-at.at c.in-Some.end c.loop-at.count inv.low (omega arith) ends.1 inv.exact;
    }

pub loop-at-preserved-in-Some-2 : goal.loop-at-preserved-in-Some-2
loop-at-preserved-in-Some-2 c =
    let inv = c.loop-at.invariant in
    let ends = c.in-Some.ensures in
    record {
      low = omega arith;
      high = omega arith;
      small = omega arith;
      exact = counted_marked (λ n. in_marks c.args.marks.now c.args.writer n) c.args.from c.loop-at.at c.args.until c.loop-at.count inv.low (omega arith)
          (λ k low high. ends.1 k low (omega arith)) inv.exact;
    }

pub loop-at-preserved : goal.loop-at-preserved
loop-at-preserved c =
    let inv = c.loop-at.invariant in
    let next = c.next_marked-next.ensures in
    record {
      low = omega arith;
      high = omega arith;
      small = omega arith;
      exact = counted_free (λ n. in_marks c.args.marks.now c.args.writer n) c.args.from c.loop-at.at c.next_marked-next.result c.loop-at.count inv.low (omega arith) next.free inv.exact;
    }
