use Rattle.std.proofs.Common.{rules, ◌/◌, ap, ◌∙◌, arith, Some}
use Rattle.dds_match.specs.Paces.{in_flight}
use Rattle.dds_conform.proofs.Clocked.{by_rows, more_places}
use Rattle.dds_conform.proofs.windows.caps_of.Goals as goal

pub loop-place-preserved : goal.loop-place-preserved
loop-place-preserved c =
    let d = c.args.plan.now in
    let r = c.args.reader in
    let most = Some c.args.nanoseconds in
    let at = c.in_flight.ensures ∙ ap (λ w. in_flight d w r c.new-key.result most) c.new-writer.ensures ∙ ap (λ k. in_flight d (c.loop-place.place / 64) r k most) c.new-key.ensures in
    record { size = search rules; each = more_places (λ w k. in_flight d w r k most) c.loop-place.caps.items _ _ _ c.loop-place.invariant.size c.in_ok-push.ensures.items at c.loop-place.invariant.each }

pub returns : goal.returns
returns c = record {
  size = search rules;
  each = by_rows (λ w k. in_flight c.args.plan.now w c.args.reader k (Some c.args.nanoseconds)) c.loop-place.caps.items c.loop-place.place (omega arith) c.loop-place.invariant.each;
}
