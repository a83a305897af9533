-- What lint finds, by what each finding is about and the name of that.
use Rattle.std.specs.Prelude.{ℕ, ◌≡◌, ◌<◌, ◌-◌, ◌==◌, Bool, true, false, nat_lt, List, [], ◌∷◌, ◌++◌, codes, count_by, filter, if◌then◌else◌, length, map, string_bytes, Option, Some, None, Ok, Err, take}
use Rattle.std.specs.List.{All}
use Rattle.dds_fields.specs.Reading.{Read}
use Rattle.dds_lists.specs.Lists.{Lists}
use Rattle.dds_deploy.specs.Document as deployment
use Rattle.dds_match.specs.Plan.{network_of}
use Rattle.dds_weights.specs.Lists.{Certificate}
use Rattle.dds_cert.specs.Document as certificate
use Rattle.dds_check.specs.declared.verdict.No.{No}
use Rattle.dds_notes.specs.Notes.{note_subject}
use Rattle.dds_check.specs.Verdict.{number_of}
use Rattle.dds_lint.specs.Conditions.{all_nos, bare_nos}
use Rattle.dds_lint.specs.Every.{every_below}
use Rattle.dds_lint.specs.Endless.{endless_rules}
use Rattle.dds_lint.specs.Firings.{AreLimits}
use Rattle.dds_lint.specs.Notes.{all_notes}
use Rattle.dds_lint.specs.declared.endless.EndlessRule.{EndlessRule}
use Rattle.dds_lint.specs.declared.notes.Note.{Note}
use Rattle.dds_findings.specs.Kinds.{kind_of}
use Rattle.dds_options.specs.Deny.{is_denied_note, is_passed_note}
use Rattle.dds_options.specs.Kinds.{kind_place, kinds}
use Rattle.dds_options.specs.declared.deny.Deny.{Deny}
use Rattle.dds_findings.specs.declared.finding.About.{About}
use Rattle.dds_findings.specs.declared.finding.About.TheVariants as about
use Rattle.dds_findings.specs.declared.finding.Finding.{Finding}
use Rattle.dds_findings.specs.declared.finding.Level.{Level}
use Rattle.dds_findings.specs.declared.finding.Level.TheVariants as level

-- a fault, a condition that fails and a rule for which no certificate is accepted are errors, a note isn't; nor is a count of notes
abbrev pub level_of : About → Level
level_of about.Fault = level.Error
level_of (about.Condition refused) = level.Error
level_of (about.MoreConditions like n) = level.Error
level_of (about.Endless rule) = level.Error
level_of (about.Note note) = level.Note
level_of (about.MoreNotes like n) = level.Note

abbrev pub level_word : Level → List ℕ
level_word level.Error = codes "error"
level_word level.Note = codes "note"

abbrev pub is_error : About → Bool
is_error about.Fault = true
is_error (about.Condition refused) = true
is_error (about.MoreConditions like n) = true
is_error (about.Endless rule) = true
is_error (about.Note note) = false
is_error (about.MoreNotes like n) = false

-- what is found is a fault of a file
abbrev pub is_fault : About → Bool
is_fault about.Fault = true
is_fault (about.Condition refused) = false
is_fault (about.MoreConditions like n) = false
is_fault (about.Endless rule) = false
is_fault (about.Note note) = false
is_fault (about.MoreNotes like n) = false

-- how many errors it stands for, and how many notes
abbrev pub errors_in : About → ℕ
errors_in about.Fault = 1
errors_in (about.Condition refused) = 1
errors_in (about.MoreConditions like n) = n
errors_in (about.Endless rule) = 1
errors_in (about.Note note) = 0
errors_in (about.MoreNotes like n) = 0

abbrev pub notes_in : About → ℕ
notes_in (about.Note note) = 1
notes_in (about.MoreNotes like n) = n
notes_in _ = 0

-- what is found makes the answer no: each error does
abbrev pub is_denied_about : Deny → (subject : List ℕ) → About → Bool
is_denied_about denied subject about.Fault = true
is_denied_about denied subject (about.Condition refused) = true
is_denied_about denied subject (about.MoreConditions like n) = true
is_denied_about denied subject (about.Endless rule) = true
is_denied_about denied subject (about.Note note) = is_denied_note denied (kind_of note) subject
is_denied_about denied subject (about.MoreNotes like n) = is_denied_note denied (kind_of like) subject

-- what is found is a note that is let pass by its name
abbrev pub is_passed_about : Deny → (subject : List ℕ) → About → Bool
is_passed_about denied subject (about.Note note) = is_passed_note denied (kind_of note) subject
is_passed_about denied subject (about.MoreNotes like n) = is_passed_note denied (kind_of like) subject
is_passed_about denied subject _ = false

abbrev pub is_passed : Deny → Finding → Bool
is_passed denied f = is_passed_about denied (string_bytes f.subject) f.about

-- a finding makes the answer no
abbrev pub is_denied : Deny → Finding → Bool
is_denied denied f = is_denied_about denied (string_bytes f.subject) f.about

-- a matter: what a finding is about, and the name of that, empty where there's none
abbrev pub Matter : Type 0
Matter = About × List ℕ

abbrev pub matter_of : Finding → Matter
matter_of f = (f.about, string_bytes f.subject)

-- the matters of findings, in their order
abbrev pub matters : List Finding → List Matter
matters findings = map matter_of findings

-- neither a fault nor a condition nor an endless rule has a name; a note has that of the endpoint, topic, rule or row that it's about
abbrev pub fault_matter : Matter
fault_matter = (about.Fault, [])

abbrev pub condition_matter : No → Matter
condition_matter refused = (about.Condition refused, [])

abbrev pub endless_matter : EndlessRule → Matter
endless_matter rule = (about.Endless rule, [])

abbrev pub note_matter : Lists → Certificate → Note → Matter
note_matter d cert note = (about.Note note, note_subject d cert note)

-- a certificate that claims nothing
abbrev pub no_certificate : Certificate
no_certificate = record { rows = []; bounds = []; totals = [] }

-- ── what is listed: of each kind of condition and of note the first, and how many more there are
abbrev pub most_listed : ℕ
most_listed = 1000

-- the condition has this number
abbrev pub has_number : ℕ → No → Bool
has_number n refused = number_of refused.number == n

-- the note is of the kind with this place
abbrev pub has_kind : ℕ → Note → Bool
has_kind n note = kind_place (kind_of note) == n

abbrev pub first_of_number : ℕ → List No → List No
first_of_number n nos = take most_listed (filter (has_number n) nos)

abbrev pub first_of_kind : ℕ → List Note → List Note
first_of_kind n notes = take most_listed (filter (has_kind n) notes)

-- how many there are beyond those that are listed, with the first of them as an example
abbrev pub more_conditions : List No → (count : ℕ) → List Matter
more_conditions [] count = []
more_conditions (like ∷ nos) count = if nat_lt most_listed count then (about.MoreConditions like (count - most_listed), []) ∷ [] else []

abbrev pub more_notes : List Note → (count : ℕ) → List Matter
more_notes [] count = []
more_notes (like ∷ notes) count = if nat_lt most_listed count then (about.MoreNotes like (count - most_listed), []) ∷ [] else []

abbrev pub of_number : List No → ℕ → List Matter
of_number nos n = map condition_matter (first_of_number n nos) ++ more_conditions (first_of_number n nos) (count_by (has_number n) nos)

abbrev pub of_kind : Lists → Certificate → List Note → ℕ → List Matter
of_kind d cert notes n = map (note_matter d cert) (first_of_kind n notes) ++ more_notes (first_of_kind n notes) (count_by (has_kind n) notes)

-- numbers of conditions are below this
abbrev pub most_numbers : ℕ
most_numbers = 34

-- conditions that fail by their numbers, then rules for which no certificate is accepted, and then notes by their kinds
abbrev pub of_lists : Lists → Certificate → List No → List Note → List Matter
of_lists d cert nos notes =
    every_below most_numbers (of_number nos) ++ (map endless_matter (endless_rules (network_of d)) ++ every_below kinds (of_kind d cert notes))

-- the notes on a deployment and a certificate, by how often each rule can fire
abbrev pub AreNotes : Lists → Certificate → List Note → Type 0
AreNotes d cert notes = (limit : ℕ → ℕ) × AreLimits (network_of d) limit × (notes ≡ all_notes d limit cert)

-- what is found of a deployment without a certificate: the conditions that ask for none, endless rules, and notes
abbrev pub IsBare : Lists → List Matter → Type 0
IsBare d found = (notes : List Note) × AreNotes d no_certificate notes × (found ≡ of_lists d no_certificate (bare_nos d) notes)

-- nothing but faults, and one at least
abbrev pub AreFaults : List Matter → Type 0
AreFaults found = (0 < length found) × All (λ m. m ≡ fault_matter) found

-- what is found of a deployment and of bytes that were read as its certificate: all conditions, endless rules and notes, or the certificate's faults, and then what is
-- found without it
abbrev pub IsJudged : Lists → Read Certificate → List Matter → Type 0
IsJudged d (Ok cert) found = (notes : List Note) × AreNotes d cert notes × (found ≡ of_lists d cert (all_nos d cert) notes)
IsJudged d (Err flaw) found = (faults rest : List Matter) × AreFaults faults × IsBare d rest × (found ≡ faults ++ rest)

-- what is found of bytes that were read as a deployment, and of those of a certificate, if there are some
abbrev pub IsFound : Read Lists → Option (List ℕ) → List Matter → Type 0
IsFound (Err flaw) c found = AreFaults found
IsFound (Ok d) None found = IsBare d found
IsFound (Ok d) (Some bytes) found = IsJudged d (certificate.read d bytes) found

-- what lint finds of the bytes of a deployment, and of those of a certificate, if there are some
unfoldable pub IsLint : List ℕ → Option (List ℕ) → List Matter → Type 0
IsLint d c found = IsFound (deployment.read d) c found
