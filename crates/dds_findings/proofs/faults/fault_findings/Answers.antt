use Rattle.dds_findings.proofs.FaultLists.{faults_found}
use Rattle.dds_findings.proofs.faults.fault_findings.Goals as goal

pub returns : goal.returns
returns c = faults_found (λ v. v.items) c.args.faults.now c.each_finding.result c.requires c.each_finding.ensures
