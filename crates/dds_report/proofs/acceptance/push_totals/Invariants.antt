use Rattle.std.proofs.Common.{◌≡◌, ◌++◌, flat_map, string_bytes, take}
use Rattle.dds_report.specs.Acceptance.{total_line}
use Rattle.dds_report.proofs.acceptance.push_totals.Given as goal

-- the lines of the totals so far are added
abbrev pub invariant-loop-total : goal.invariant-loop-total
invariant-loop-total l = string_bytes l.text ≡ string_bytes l.initial.text ++ flat_map (total_line l.lists) (take l.total-index l.totals)
