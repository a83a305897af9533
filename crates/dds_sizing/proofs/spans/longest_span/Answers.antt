use Rattle.std.proofs.Common.{◌+◌, ◌-◌, ◌/◌, sym, arith}
use Rattle.dds_sizing.proofs.SpanLaws.{broken_longer}
use Rattle.dds_sizing.proofs.spans.longest_span.Goals as goal

pub returns-then-not-is_kept : goal.returns-then-not-is_kept
returns-then-not-is_kept c = λ other. broken_longer c.args.plan.now c.args.reader c.args.key c.args.limit 0 other (omega arith) (sym c.if-not-is_kept.ensures)

pub loop-broken-preserved : goal.loop-broken-preserved
loop-broken-preserved c =
    let middle = c.loop-broken.kept + (c.loop-broken.broken - c.loop-broken.kept) / 2 in
    let order = c.loop-broken.invariant.order in
    let top = c.loop-broken.invariant.top in
    let apart = c.loop-broken-test.true in
    record {
      order = omega (arith, order, apart);
      top = omega (arith, order, top);
      kept = c.loop-broken.invariant.kept;
      broken = λ other past small. broken_longer c.args.plan.now c.args.reader c.args.key c.args.limit middle other past (sym c.if-is_kept.ensures);
    }
