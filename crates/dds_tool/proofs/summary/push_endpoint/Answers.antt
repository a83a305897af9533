use Rattle.std.proofs.Common.{◌≡◌, ◌++◌, ◌∙◌, ap, arith, map, string_bytes}
use Rattle.dds_text.proofs.TextLaws.{and_those}
use Rattle.dds_tool.specs.Summary.{key_parts}
use Rattle.dds_tool.proofs.Summaries.{all_keys}
use Rattle.dds_tool.proofs.summary.push_endpoint.Goals as goal

pub loop-k-preserved : goal.loop-k-preserved
loop-k-preserved c =
    let parts_of_key = key_parts c.args.lists.now c.args.act c.args.endpoint c.args.keys.now in
    and_those parts_of_key c.loop-k.k (map string_bytes c.args.parts.now.items) (map string_bytes c.loop-k.parts.items) (map string_bytes c.push_key.new.parts.items) c.loop-k.invariant
    (c.in_ok-push_key.ensures ∙ ap (λ k. map string_bytes c.loop-k.parts.items ++ parts_of_key k) c.new.ensures)

pub returns : goal.returns
returns c =
    let whole : c.loop-k.k ≡ 64 = omega arith in
    c.loop-k.invariant ∙ ap (λ parts. map string_bytes c.args.parts.now.items ++ parts) (all_keys c.args.lists.now c.args.act c.args.endpoint c.args.keys.now c.loop-k.k whole)
