use Rattle.std.proofs.Common.{◌≡◌, ◌++◌, map, take}
use Rattle.dds_findings.specs.Findings.{condition_matter, matters}
use Rattle.dds_findings.proofs.linting.push_conditions.Given as goal

-- those of the conditions so far are added
abbrev pub invariant-loop-no : goal.invariant-loop-no
invariant-loop-no l = matters l.found.items ≡ matters l.initial.found.items ++ map condition_matter (take l.no-index l.nos)
