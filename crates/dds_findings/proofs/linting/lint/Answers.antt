use Rattle.dds_findings.proofs.Agreement.{found_as_check}
use Rattle.dds_findings.proofs.linting.lint.Goals as goal

-- what is found agrees with the check of the same bytes
pub returns-in-Ok-clause-agrees : goal.returns-in-Ok-clause-agrees
returns-in-Ok-clause-agrees c = found_as_check (λ v. v.items) _ _ c.file_findings-found.result c.file_findings-found.ensures.found c.file_findings-found.ensures.refused
