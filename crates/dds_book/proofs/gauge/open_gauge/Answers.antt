use Rattle.std.proofs.Common.{rules, arith, ◌≡◌, ◌+◌, map, sym, ap, ◌∙◌}
use Rattle.std.specs.List.{range_with_len}
use Rattle.dds_book.specs.Gauge.{fresh_seat}
use Rattle.dds_book.proofs.GaugeCuts.{owner_first, monitor_after, seats_more}
use Rattle.dds_book.proofs.gauge.open_gauge.Goals as goal

pub loop-app-preserved : goal.loop-app-preserved
loop-app-preserved c =
    let t = c.in_ok-table.table.shared.table_id in
    let k = c.loop-app.app in record {
      table = c.owner.ensures.maker.0;
      maker = search rules;
      seats = c.in_ok-push-2.ensures.items ∙ seats_more t c.args.apps k _ _ c.loop-app.invariant.seats (c.owner.ensures.seat ∙ sym (owner_first t c.args.apps k (omega arith)));
    }

pub loop-preserved : goal.loop-preserved
loop-preserved c =
    let t = c.in_ok-table.table.shared.table_id in
    let apps = c.args.apps in
    let k = c.loop.counter in
    let n : apps + (k + 1) ≡ (apps + k) + 1 = omega arith in record {
      table = c.monitor.ensures.maker.0;
      seats = c.in_ok-push-3.ensures.items ∙ seats_more t apps (apps + k) _ _ c.loop.invariant.seats (c.monitor.ensures.seat ∙ sym (monitor_after t apps k)) ∙ ap (λ m. map (fresh_seat t apps) (range_with_len 0 m)) (sym n);
    }
