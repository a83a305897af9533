use Rattle.std.proofs.Common.{rules, arith}
use Rattle.dds_match.proofs.Reasons.{one_more, by_rows}
use Rattle.dds_match.proofs.tables.reasons_of.Goals as goal

pub loop-place-preserved : goal.loop-place-preserved
loop-place-preserved c = record { size = search rules; each = one_more c.args.lists.now c.loop-place.reasons.items _ _ _ c.loop-place.invariant.size c.in_ok-push.ensures.items c.reason_of.ensures c.loop-place.invariant.each }

pub returns : goal.returns
returns c = record { rows = search rules; each = by_rows c.args.lists.now _ c.loop-place.place (omega arith) c.loop-place.invariant.each }
