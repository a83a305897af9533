use Rattle.std.proofs.Common.{rules, ◌/◌, length, ap, ◌∙◌, arith}
use Rattle.dds_match.specs.Network.{capped}
use Rattle.dds_match.specs.Plan.{network_of}
use Rattle.dds_match.proofs.Capped.{more_places, by_rows}
use Rattle.dds_match.proofs.caps.capped_of.Goals as goal

pub loop-place-preserved : goal.loop-place-preserved
loop-place-preserved c =
    let net = network_of c.args.lists.now in
    let at = c.capped.ensures ∙ ap (λ r. capped net r c.new-key.result) c.new-reader.ensures ∙ ap (capped net (c.loop-place.place / 64)) c.new-key.ensures in
    record { size = search rules; each = more_places net c.loop-place.cells.items _ _ _ c.loop-place.invariant.size c.in_ok-push.ensures.items at c.loop-place.invariant.each }

pub returns : goal.returns
returns c = record { rows = search rules; each = by_rows (network_of c.args.lists.now) _ c.loop-place.place (length c.args.lists.now.readers.entries) (omega arith) c.loop-place.invariant.each }
