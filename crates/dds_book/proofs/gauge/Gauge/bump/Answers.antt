use Rattle.std.proofs.Common.{rules, arith, sym, ap, ◌∙◌, subst}
use Rattle.dds_book.specs.Gauge.{IsSeated}
use Rattle.dds_book.proofs.GaugeSteps.{bumps}
use Rattle.dds_book.proofs.gauge.Gauge.bump.Goals as goal

pub fetch_add-found-requires : goal.fetch_add-found-requires
fetch_add-found-requires c =
    let seated = subst (λ o. IsSeated c.seat.inside.seat.table_id.words o c.seat.inside.count c.seat.inside.seat.me.0) c.in-Some.is c.seat.invariant in
    let same = ap (λ t. t.words) (ap (λ v. v.table) c.seat.view_is ∙ c.requires.gauge ∙ sym (ap (λ v. v.table) c.self.view_is)) in
    let place = c.number.ensures in
    let low = seated.4 in
    let wide = c.self.invariant in
    (search rules, omega arith, bumps c.self.inside.table.shared.key _ _ c.seat.inside.seat.me c.number.result (seated.0 ∙ sym place) (omega (arith, seated.1, place)) (omega arith) (omega arith))
