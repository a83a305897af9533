use Rattle.std.proofs.Common.{◌≡◌, ◌++◌, flat_map, map, string_bytes}
use Rattle.std.specs.List.{range_with_len}
use Rattle.dds_tool.specs.Summary.{key_parts}
use Rattle.dds_tool.proofs.summary.push_endpoint.Given as goal

-- the parts of the keys so far are added
abbrev pub invariant-loop-k : goal.invariant-loop-k
invariant-loop-k l = map string_bytes l.parts.items ≡ map string_bytes l.initial.parts.items ++ flat_map (key_parts l.lists l.act l.endpoint l.keys) (range_with_len 0 l.k)
