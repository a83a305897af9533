-- What is answered to what a deployment and a certificate have wrong.
use Rattle.std.specs.Prelude.{ℕ, ◌≡◌, List, Option}
use Rattle.dds_answers.specs.Outcome.{Outcome, said}
use Rattle.dds_findings.specs.Answers.{findings_text, is_clean}
use Rattle.dds_findings.specs.Blocks.{FileNames}
use Rattle.dds_findings.specs.Findings.{IsLint, matters}
use Rattle.dds_options.specs.declared.deny.Deny.{Deny}
use Rattle.dds_options.specs.declared.style.LintStyle.{LintStyle}
use Rattle.dds_findings.specs.declared.finding.Finding.{Finding}

-- everything that is found in files with these names and bytes is printed in this form: a yes where none of it is denied
abbrev pub MayLint : LintStyle → Deny → FileNames → (deployment : List ℕ) → (certificate : Option (List ℕ)) → Outcome → Type 0
MayLint form denied names d c end =
    (fs : List Finding) × IsLint d c (matters fs) × (end ≡ said (findings_text form names denied fs) (is_clean denied fs))
