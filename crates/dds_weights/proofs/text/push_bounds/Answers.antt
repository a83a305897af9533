use Rattle.std.proofs.Common.{string_bytes}
use Rattle.dds_weights.specs.Text.{bound_text}
use Rattle.dds_weights.specs.Views.{certificate_view}
use Rattle.dds_text.proofs.TextLaws.{and_element}
use Rattle.dds_weights.proofs.text.push_bounds.Goals as goal

pub loop-bound-preserved : goal.loop-bound-preserved
loop-bound-preserved c =
    and_element (bound_text c.args.lists.now (certificate_view c.args.certificate.now)) c.deref-bound-items.result.now c.loop-bound.bound-index c.bound-item.result
    (string_bytes c.args.text.now) (string_bytes c.loop-bound.text) (string_bytes c.in_ok-entry.entry) (string_bytes c.push_str.new.self)
    c.loop-bound-test.true c.bound-item.is c.loop-bound.invariant c.in_ok-entry.ensures (rw c.as_str.ensures.value at c.in_ok-push_str.ensures.bytes)
