use Rattle.std.proofs.Common.{◌≡◌, take}
use Rattle.std.specs.List.{sum_by}
use Rattle.dds_findings.specs.Blocks.{counted}
use Rattle.dds_findings.specs.Findings.{notes_in}
use Rattle.dds_findings.proofs.block.notes_of.Given as goal

-- those of the findings so far
abbrev pub invariant-loop-finding : goal.invariant-loop-finding
invariant-loop-finding l = l.sum ≡ counted (sum_by (λ f. notes_in f.about) (take l.finding-index l.findings))
