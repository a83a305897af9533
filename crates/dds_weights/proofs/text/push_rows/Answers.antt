use Rattle.std.proofs.Common.{string_bytes}
use Rattle.dds_weights.specs.Text.{row_text}
use Rattle.dds_weights.specs.Views.{row_view}
use Rattle.dds_text.proofs.TextLaws.{and_element}
use Rattle.dds_weights.proofs.text.push_rows.Goals as goal

pub loop-row-preserved : goal.loop-row-preserved
loop-row-preserved c =
    and_element (λ r. row_text c.args.lists.now (row_view r)) c.args.rows.now c.loop-row.row-index c.row-item.result
    (string_bytes c.args.text.now) (string_bytes c.loop-row.text) (string_bytes c.in_ok-entry.entry) (string_bytes c.push_str.new.self)
    c.loop-row-test.true c.row-item.is c.loop-row.invariant c.in_ok-entry.ensures (rw c.as_str.ensures.value at c.in_ok-push_str.ensures.bytes)
