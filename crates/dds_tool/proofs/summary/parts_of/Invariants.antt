use Rattle.std.proofs.Common.{◌≡◌, flat_map, map, string_bytes}
use Rattle.std.specs.List.{range_with_len}
use Rattle.dds_tool.specs.Summary.{run_parts}
use Rattle.dds_tool.proofs.summary.parts_of.Given as goal

-- the parts of the endpoints so far
abbrev pub invariant-loop-endpoint : goal.invariant-loop-endpoint
invariant-loop-endpoint l = map string_bytes l.parts.items ≡ flat_map (run_parts l.lists l.act l.events l.replies) (range_with_len 0 l.endpoint)
