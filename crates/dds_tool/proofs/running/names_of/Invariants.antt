use Rattle.std.proofs.Common.{◌≡◌, map, string_bytes}
use Rattle.std.specs.List.{range_with_len}
use Rattle.dds_text.specs.Names.{name_at}
use Rattle.dds_tool.proofs.running.names_of.Given as goal

-- the names of the applications so far
abbrev pub invariant-loop-app : goal.invariant-loop-app
invariant-loop-app l = map string_bytes l.names.items ≡ map (name_at l.lists.applications.names) (range_with_len 0 l.app)
