use Rattle.std.proofs.Common.{◌≡◌, ◌++◌, map, take}
use Rattle.dds_findings.specs.Findings.{endless_matter, matters}
use Rattle.dds_findings.proofs.linting.push_endless.Given as goal

-- those of the rules so far are added
abbrev pub invariant-loop-rule : goal.invariant-loop-rule
invariant-loop-rule l = matters l.found.items ≡ matters l.initial.found.items ++ map endless_matter (take l.rule-index l.rules)
