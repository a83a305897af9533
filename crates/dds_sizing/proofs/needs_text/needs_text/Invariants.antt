use Rattle.std.proofs.Common.{◌≡◌, flat_map, string_bytes, take}
use Rattle.dds_sizing.specs.NeedsText.{need_line}
use Rattle.dds_sizing.proofs.needs_text.needs_text.Given as goal

-- the lines of the needs so far
abbrev pub invariant-loop-need : goal.invariant-loop-need
invariant-loop-need l = string_bytes l.text ≡ flat_map (need_line l.lists) (take l.need-index l.needs)
