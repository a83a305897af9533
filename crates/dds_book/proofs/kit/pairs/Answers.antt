use Rattle.std.proofs.Common.{◌+◌, length, length-append, ap, ◌∙◌}
use Rattle.dds_book.proofs.KitLaws.{pairs_push}
use Rattle.dds_book.proofs.kit.pairs.Goals as goal

pub loop-seat-preserved : goal.loop-seat-preserved
loop-seat-preserved c =
    let i = c.loop-seat.invariant in
    let opened = c.in_ok-holder.ensures in
    let pushed = c.in_ok-push-2.ensures.items in record {
      number = ap length pushed ∙ length-append _ _ ∙ ap (λ n. n + 1) i.number;
      pairs = pairs_push _ _ _ _ c.loop-seat.seat c.in_ok-holder.holder c.in_ok-holder.half i.number i.pairs opened.pair opened.empty c.in_ok-push.ensures.items pushed;
    }
