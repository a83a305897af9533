use Rattle.std.proofs.Common.{◌≡◌, ◌∙◌, ◌+◌, ◌*◌, ◌<◌, ap, arith, get_or, length, slice_index}
use Rattle.dds_match.specs.Plan.{network_of}
use Rattle.dds_lint.specs.Firings.{share}
use Rattle.dds_lint.proofs.FiringLaws.{writes_more}
use Rattle.dds_lint.proofs.firings.add_writes.Goals as goal

pub loop-write-preserved : goal.loop-write-preserved
loop-write-preserved c =
    let net = network_of c.args.plan.now in
    let xs = c.args.rule.now.writes.items in
    let i = c.loop-write.write-index in
    let e = c.write-item.result in
    let size = ap length c.deref-write-items.ensures.value in
    let inside : i < length xs = omega arith in
    let at : e ≡ get_or xs i e = c.write-item.is ∙ ap (λ ys. get_or ys i e) c.deref-write-items.ensures.value in
    record {
      len = c.spread.ensures.len;
      added = λ r k there low. writes_more (share net r k) xs i e (slice_index c.spread.new.cells (r * 64 + k)) (slice_index c.loop-write.cells (r * 64 + k))
          (slice_index c.args.cells.now (r * 64 + k)) c.args.times inside at (c.spread.ensures.added r k there low) (c.loop-write.invariant.added r k there low);
    }
