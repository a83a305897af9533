-- What a check answers, and what commands write of that and of other answers.
use Rattle.std.specs.Prelude.{ℕ, List, [], ◌++◌, ◌≡◌, length, if◌then◌else◌, codes, string_bytes, None, Result, Ok, Err}
use Rattle.dds_fields.specs.Reading.{Read}
use Rattle.dds_fields.specs.declared.fault.ReadFault.{ReadFault}
use Rattle.dds_fields.specs.declared.fault.ReadFault.TheVariants as unread
use Rattle.dds_lists.specs.Lists.{Lists}
use Rattle.dds_cert.specs.declared.fault.CertFault.{CertFault}
use Rattle.dds_cert.specs.declared.fault.CertFault.TheVariants as uncertified
use Rattle.dds_cert.specs.Faults.{kind_of}
use Rattle.dds_weights.specs.Lists.{Certificate}
use Rattle.dds_weights.specs.Views.{certificate_view}
use Rattle.dds_match.specs.Plan.{network_of}
use Rattle.dds_answers.specs.Matches.{is_as_intended, lines_of}
use Rattle.dds_weights.specs.Text.{certificate_text}
use Rattle.dds_show.specs.Json.{deployment_json}
use Rattle.dds_xml.specs.Document.{deployment_xml}
use Rattle.dds_draw.specs.Picture.{drawing}
use Rattle.dds_explain.specs.Explanation.{margins, reason}
use Rattle.dds_notes.specs.Notes.{note_lines}
use Rattle.dds_explain.specs.Premises.{premise_lines}
use Rattle.dds_report.specs.Acceptance.{acceptance_lines}
use Rattle.dds_report.specs.Refusal.{refusal_line}
use Rattle.dds_options.specs.declared.format.Format.{Format}
use Rattle.dds_options.specs.declared.format.Format.TheVariants.{Json, DdsXml}
use Rattle.dds_answers.specs.Outcome.{Outcome, accepted, refused, accepted_because, refused_because, bad_deployment, bad_certificate, too_large, compared, proposed, unproposed, migrated, shown, drawn, said, bad_events, bad_trace}
use Rattle.dds_answers.specs.declared.fault.ToolFault.{ToolFault}
use Rattle.dds_answers.specs.declared.fault.ToolFault.TheVariants as fault
use Rattle.dds_answers.specs.declared.report.Report.{Report}
use Rattle.dds_answers.specs.declared.report.Report.TheVariants as answer

-- how the check ended that gave a report
abbrev pub outcome_of : Report → Outcome
outcome_of (answer.Yes checked) = accepted checked.plan checked.certificate
outcome_of (answer.Refused first lists cert) = refused first lists (certificate_view cert)

-- how the check ended that gave this report or fault; running out of memory says nothing about it
abbrev pub Tells : Result Report ToolFault → Outcome → Type 0
Tells (Ok report) end = end ≡ outcome_of report
Tells (Err (fault.Deployment flaw syntax)) end = end ≡ bad_deployment (flaw.kind, string_bytes flaw.path)
Tells (Err (fault.Certificate flaw syntax)) end = end ≡ bad_certificate (kind_of flaw.kind, string_bytes flaw.path)
Tells (Err (fault.Events kind line)) end = ⊥
Tells (Err (fault.Trace kind line)) end = ⊥
Tells (Err fault.NoMemory) end = Unit {0}
Tells (Err (fault.Usage text)) end = ⊥
Tells (Err fault.TooLarge) end = ⊥
Tells (Err fault.Read) end = ⊥
Tells (Err fault.Write) end = ⊥
Tells (Err fault.Run) end = ⊥

-- a deployment in a format
abbrev pub shown_text : Format → Lists → List ℕ
shown_text Json d = deployment_json d
shown_text DdsXml d = deployment_xml d

-- the reason of an acceptance: how near each bound is to its limit, what the yes takes for granted of clocks, and what it doesn't say
abbrev pub acceptance_reason : Lists → Certificate → List ℕ
acceptance_reason d c = margins d c ++ (premise_lines d ++ note_lines d c)

-- what a command writes to its output; of a bad file nothing
unfoldable pub output_of : Outcome → List ℕ
output_of (accepted d c) = acceptance_lines d c
output_of (refused first d c) = refusal_line d c first
output_of (accepted_because d c) = acceptance_lines d c ++ acceptance_reason d c
output_of (refused_because first d c) = refusal_line d c first ++ reason d c first
output_of (compared d) = lines_of d (length d.writers.entries) (length d.readers.entries)
output_of (proposed d c) = certificate_text d c
output_of unproposed = codes "none\n"
output_of (migrated text) = text
output_of (shown format d) = shown_text format d
output_of (drawn d c) = drawing d c
output_of (said lines is_yes) = lines
output_of (bad_deployment flaw) = []
output_of (bad_certificate flaw) = []
output_of (bad_events kind line) = []
output_of (bad_trace kind line) = []
output_of too_large = []

-- the lines of the reason of a report
abbrev pub because_lines : Report → List ℕ
because_lines (answer.Yes checked) = acceptance_reason checked.plan checked.certificate
because_lines (answer.Refused first lists cert) = reason lists (certificate_view cert) first

-- the lines of a report
abbrev pub report_text_of : Report → List ℕ
report_text_of report = output_of (outcome_of report)

-- the exit status: 0 yes, 1 no, 2 a bad file
unfoldable pub status_of : Outcome → ℕ
status_of (accepted d c) = 0
status_of (refused first d c) = 1
status_of (accepted_because d c) = 0
status_of (refused_because first d c) = 1
status_of (compared d) = if is_as_intended (network_of d) then 0 else 1
status_of (proposed d c) = 0
status_of unproposed = 1
status_of (migrated text) = 0
status_of (shown format d) = 0
status_of (drawn d c) = 0
status_of (said lines is_yes) = if is_yes then 0 else 1
status_of (bad_deployment flaw) = 2
status_of (bad_certificate flaw) = 2
status_of (bad_events kind line) = 2
status_of (bad_trace kind line) = 2
status_of too_large = 2

-- the fault with which a command ends that ends so, or a fault of memory or of a device
abbrev pub Ends : ToolFault → Outcome → Type 0
Ends (fault.Deployment flaw syntax) end = end ≡ bad_deployment (flaw.kind, string_bytes flaw.path)
Ends (fault.Certificate flaw syntax) end = end ≡ bad_certificate (kind_of flaw.kind, string_bytes flaw.path)
Ends (fault.Events kind line) end = end ≡ bad_events kind line
Ends (fault.Trace kind line) end = end ≡ bad_trace kind line
Ends fault.TooLarge end = end ≡ too_large
Ends fault.Read end = Unit {0}
Ends fault.Write end = Unit {0}
Ends fault.NoMemory end = Unit {0}
Ends (fault.Usage text) end = ⊥
Ends fault.Run end = ⊥

-- the fault of a deployment that could not be read
abbrev pub IsDeploymentFault : ReadFault → ToolFault → Type 0
IsDeploymentFault (unread.At flaw) told = told ≡ fault.Deployment flaw None
IsDeploymentFault unread.NoMemory told = told ≡ fault.NoMemory

-- the fault with which a command ends that finds this flaw where it reads a deployment, or that memory ran out
abbrev pub IsUnread : Read Lists → ToolFault → Type 0
IsUnread read (fault.Deployment flaw syntax) = (read ≡ Err (flaw.kind, string_bytes flaw.path)) × (syntax ≡ None)
IsUnread read fault.NoMemory = Unit {0}
IsUnread read _ = ⊥

-- the fault of a certificate that could not be read
abbrev pub IsCertificateFault : CertFault → ToolFault → Type 0
IsCertificateFault (uncertified.At flaw) told = told ≡ fault.Certificate flaw None
IsCertificateFault uncertified.NoMemory told = told ≡ fault.NoMemory
