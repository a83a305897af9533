use Rattle.std.proofs.Common.{◌∙◌, sym, ap}
use Rattle.dds_match.specs.Paces.{taken_span}
use Rattle.dds_match.specs.Writes.{most_in_flight, writes_at}
use Rattle.dds_match.proofs.Brought.{flies, flies_not}
use Rattle.dds_match.proofs.caps.cap.Goals as goal

pub returns-then-not-is_awaited : goal.returns-then-not-is_awaited
returns-then-not-is_awaited c = flies_not c.args.lists.now c.args.w c.args.r c.args.key (taken_span c.args.lists.now c.args.r) (sym c.if-not-is_awaited.ensures)

pub returns : goal.returns
returns c =
    let d = c.args.lists.now in
    flies d c.args.w c.args.r c.args.key (taken_span d c.args.r) c.most_in_flight.result (sym c.if-not-is_awaited.ensures)
    (c.most_in_flight.ensures ∙ ap (λ writes. most_in_flight writes c.args.key c.taken_within.result) c.writes_of.ensures.value ∙ ap (most_in_flight (writes_at d c.args.w) c.args.key) c.taken_within.ensures)
