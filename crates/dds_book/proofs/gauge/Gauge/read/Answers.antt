use Rattle.std.proofs.Common.{rules, arith, sym, ap, ◌∙◌}
use Rattle.dds_book.specs.Gauge.{seen_at}
use Rattle.dds_book.proofs.GaugeSteps.{looks, read_before, read_now}
use Rattle.dds_book.proofs.gauge.Gauge.read.Goals as goal

pub load-requires : goal.load-requires
load-requires c =
    let same = ap (λ t. t.words) (ap (λ v. v.table) c.seat.view_is ∙ c.requires.gauge ∙ sym (ap (λ v. v.table) c.self.view_is)) in
    let apps = ap (λ v. v.apps) c.self.view_is in
    let place = c.number.ensures in
    let wide = c.self.invariant in
    (search rules, omega arith, looks c.self.inside.table.shared.key _ _ c.seat.inside.seat.me c.number.result)

pub returns-clause-seen : goal.returns-clause-seen
returns-clause-seen c = read_now c.args.app c.number.result c.load.result c.seat.inside.seat.me.0.seen _ c.number.ensures (ap (λ v. v.seen) c.load.ensures.2.2)

pub returns-clause-others : goal.returns-clause-others
returns-clause-others c = λ other apart.
    read_before c.args.app c.number.result c.load.result c.seat.inside.seat.me.0.seen _ c.number.ensures (ap (λ v. v.seen) c.load.ensures.2.2) other apart
    ∙ ap (λ v. seen_at v.seen other) c.seat.view_is
