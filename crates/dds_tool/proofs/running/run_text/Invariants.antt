use Rattle.std.proofs.Common.{◌≡◌, map, string_bytes}
use Rattle.dds_text.specs.Texts.{each_below}
use Rattle.dds_tool.specs.Running.{line_at}
use Rattle.dds_tool.proofs.running.run_text.Given as goal

-- the lines of the applications so far
abbrev pub invariant-loop-app : goal.invariant-loop-app
invariant-loop-app l = string_bytes l.text ≡ each_below l.app (line_at (map string_bytes l.names) l.journal l.ends)
