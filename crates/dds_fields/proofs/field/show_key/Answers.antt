use Rattle.std.proofs.Common.{◌≡◌, ◌≤◌, map, take, length, sym, ap, ◌∙◌, arith, string_bytes}
use Rattle.std.specs.Str.{chars}
use Rattle.std.proofs.lemmas.List.{length-map, map-id, take_all}
use Rattle.std.proofs.lemmas.Iterator.{YieldsList-from_chars}
use Rattle.std.proofs.lemmas.Iterator.Consumers.{YieldsList-so_far, YieldsList-end}
use Rattle.dds_fields.specs.Reading.{shown, shown_char}
use Rattle.dds_fields.proofs.field.show_key.Goals as goal

pub returns-then-len-eq64 : goal.returns-then-len-eq64
unfolding shown
returns-then-len-eq64 c =
    let so_far = YieldsList-so_far (YieldsList-from_chars c.args.key.now c.utf8.key cc) c.loop-c.yielded _ c.loop-c.yielded_by in
    let n : length c.loop-c.yielded ≡ 64 = omega (arith, ap length c.loop-c.invariant.0, length-map c.loop-c.yielded shown_char) in
    c.loop-c.invariant.0 ∙ ap (map shown_char) (sym (map-id c.loop-c.yielded) ∙ so_far ∙ ap (λ k. take k (chars c.args.key.now)) n)

pub returns : goal.returns
unfolding shown
returns c =
    let e = YieldsList-end (YieldsList-from_chars c.args.key.now c.utf8.key cc) c.loop-c.yielded _ c.loop-c.yielded_by _ _ c.in-None.is c.next.ensures.steps in
    let short : length (chars c.args.key.now) ≤ 64 = omega (arith, e.1, c.loop-c.invariant.1) in
    c.loop-c.invariant.0 ∙ ap (map shown_char) (sym (map-id c.loop-c.yielded) ∙ e.0 ∙ sym (take_all 64 (chars c.args.key.now) short))
