use Rattle.std.proofs.Common.{◌≡◌, ◌++◌, flat_map, string_bytes, take}
use Rattle.dds_report.specs.Acceptance.{bound_line}
use Rattle.dds_report.proofs.acceptance.push_bounds.Given as goal

-- the lines of the bounds so far are added
abbrev pub invariant-loop-bound : goal.invariant-loop-bound
invariant-loop-bound l = string_bytes l.text ≡ string_bytes l.initial.text ++ flat_map (bound_line l.lists) (take l.bound-index l.bounds)
