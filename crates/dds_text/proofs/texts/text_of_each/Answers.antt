use Rattle.std.proofs.Common.{◌≡◌, ◌∙◌, [], IfOk, ap, flat_map, string_bytes}
use Rattle.std.proofs.lemmas.List.{take_all}
use Rattle.dds_text.proofs.TextLaws.{and_element}
use Rattle.dds_text.proofs.texts.text_of_each.Goals as goal

pub loop-x-preserved : goal.loop-x-preserved
loop-x-preserved g c f same =
    let here : IfOk c.piece.result (λ text. string_bytes text ≡ f c.x-item.result) = same _ c.piece.result c.piece.ensures in
    let next : string_bytes c.in_ok-next.next ≡ f c.x-item.result = rw c.in_ok-next.was at here in
    and_element f c.args.xs.now c.loop-x.x-index c.x-item.result [] (string_bytes c.loop-x.text) (string_bytes c.in_ok-next.next) (string_bytes c.push_str.new.self)
    c.loop-x-test.true c.x-item.is (c.loop-x.invariant f same) next (rw c.as_str.ensures.value at c.in_ok-push_str.ensures.bytes)

pub returns : goal.returns
returns g c f same = c.loop-x.invariant f same ∙ ap (flat_map f) (take_all c.loop-x.x-index c.args.xs.now c.loop-x-test.false)
