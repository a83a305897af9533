use Rattle.std.proofs.Common.{◌≡◌, map, take}
use Rattle.dds_faults.specs.declared.fault.FileFault.{FileFault}
use Rattle.dds_findings.specs.Findings.{fault_matter, matters}
use Rattle.dds_findings.proofs.faults.each_finding.Given as goal

-- the findings so far are of faults
abbrev pub invariant-loop-one : goal.invariant-loop-one
invariant-loop-one l = matters l.found.items ≡ map (λ (f : FileFault). fault_matter) (take l.one-index l.faults)
