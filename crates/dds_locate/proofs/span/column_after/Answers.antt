use Rattle.std.proofs.Common.{rules}
use Rattle.dds_locate.proofs.Columns.{column_more}
use Rattle.dds_locate.proofs.span.column_after.Goals.{then-byte-eq10, else-byte-eq10+then-begins_character, else-byte-eq10+else-begins_character}
use Rattle.dds_locate.proofs.span.column_after.Goals as goal

pub loop-byte-preserved : goal.loop-byte-preserved
loop-byte-preserved c =
    let more = column_more c.args.before.now c.loop-byte.byte-index 0 (search rules) in
    elim c.if-byte-eq10.branch [
      | then-byte-eq10 w ↦ record { is = search (rules, more, w); few = search (rules, w) }
      | else-byte-eq10+then-begins_character w ↦ record { is = search (rules, more, w); few = search (rules, w) }
      | else-byte-eq10+else-begins_character w ↦ record { is = search (rules, more, w); few = search (rules, w) }
    ]
