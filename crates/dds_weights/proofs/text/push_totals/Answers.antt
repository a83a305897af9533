use Rattle.std.proofs.Common.{string_bytes}
use Rattle.dds_weights.specs.Text.{total_text}
use Rattle.dds_weights.specs.Views.{certificate_view}
use Rattle.dds_text.proofs.TextLaws.{and_element}
use Rattle.dds_weights.proofs.text.push_totals.Goals as goal

pub loop-total-preserved : goal.loop-total-preserved
loop-total-preserved c =
    and_element (total_text c.args.lists.now (certificate_view c.args.certificate.now)) c.deref-total-items.result.now c.loop-total.total-index c.total-item.result
    (string_bytes c.args.text.now) (string_bytes c.loop-total.text) (string_bytes c.in_ok-entry.entry) (string_bytes c.push_str.new.self)
    c.loop-total-test.true c.total-item.is c.loop-total.invariant c.in_ok-entry.ensures (rw c.as_str.ensures.value at c.in_ok-push_str.ensures.bytes)
