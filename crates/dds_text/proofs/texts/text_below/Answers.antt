use Rattle.std.proofs.Common.{◌≡◌, IfOk, string_bytes}
use Rattle.dds_text.proofs.TextLaws.{and_text}
use Rattle.dds_text.proofs.texts.text_below.Goals as goal

pub loop-i-preserved : goal.loop-i-preserved
loop-i-preserved g c f same =
    let here : IfOk c.piece.result (λ text. string_bytes text ≡ f c.loop-i.i) = same c.loop-i.i c.piece.result c.loop-i-test.true c.piece.ensures in
    let next : string_bytes c.in_ok-next.next ≡ f c.loop-i.i = rw c.in_ok-next.was at here in
    and_text f c.loop-i.i (string_bytes c.loop-i.text) (string_bytes c.in_ok-next.next) c.as_str.result.now (string_bytes c.push_str.new.self)
    (c.loop-i.invariant f same) next c.as_str.ensures.value c.in_ok-push_str.ensures.bytes
