use Rattle.std.proofs.Common.{◌≡◌, take}
use Rattle.std.specs.Prelude.{filter}
use Rattle.dds_findings.specs.Findings.{has_number}
use Rattle.dds_findings.proofs.linting.first_of_number.Given as goal

-- the first of those so far
abbrev pub invariant-loop-no : goal.invariant-loop-no
invariant-loop-no l = l.first.items ≡ take 1000 (filter (has_number l.number) (take l.no-index l.nos))
