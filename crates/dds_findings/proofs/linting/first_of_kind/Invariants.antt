use Rattle.std.proofs.Common.{◌≡◌, take}
use Rattle.std.specs.Prelude.{filter}
use Rattle.dds_findings.specs.Findings.{has_kind}
use Rattle.dds_findings.proofs.linting.first_of_kind.Given as goal

-- the first of those so far
abbrev pub invariant-loop-one : goal.invariant-loop-one
invariant-loop-one l = l.first.items ≡ take 1000 (filter (has_kind l.kind) (take l.one-index l.notes))
