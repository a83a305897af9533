use Rattle.std.proofs.Common.{◌++◌, ◌∙◌, List, ap, map, string_bytes}
use Rattle.dds_json.proofs.Documents.{those_more}
use Rattle.dds_tool.specs.Summary.{endpoint_parts, run_parts}
use Rattle.dds_tool.proofs.summary.parts_of.Goals as goal

pub loop-endpoint-preserved : goal.loop-endpoint-preserved
loop-endpoint-preserved c =
    those_more (run_parts c.args.lists.now c.args.act c.args.events.now c.args.replies.now) c.loop-endpoint.endpoint (map string_bytes c.loop-endpoint.parts.items) (map string_bytes c.push_endpoint.new.parts.items)
    c.loop-endpoint.invariant
    (c.in_ok-push_endpoint.ensures ∙ ap (λ keys. map string_bytes c.loop-endpoint.parts.items ++ endpoint_parts c.args.lists.now c.args.act keys c.loop-endpoint.endpoint) (c.deref.ensures.value ∙ c.in_ok-keys.ensures))
