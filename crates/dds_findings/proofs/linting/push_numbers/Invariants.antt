use Rattle.std.proofs.Common.{◌≡◌, ◌++◌}
use Rattle.dds_lint.specs.Every.{every_below}
use Rattle.dds_findings.specs.Findings.{matters, of_number}
use Rattle.dds_findings.proofs.linting.push_numbers.Given as goal

-- those of the numbers so far are added
abbrev pub invariant-loop-number : goal.invariant-loop-number
invariant-loop-number l = matters l.found.items ≡ matters l.initial.found.items ++ every_below l.number (of_number l.nos)
