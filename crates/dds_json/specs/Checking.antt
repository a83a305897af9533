-- The documents of a check.
use Rattle.std.specs.Prelude.{ℕ, Bool, true, false, List, map, codes, Option, Some, None}
use Rattle.serde_json.specs.Data.{Data, Members, array, member, no_members, number, object, string, unsigned}
use Rattle.serde_json.specs.View.{items_of}
use Rattle.dds_lists.specs.Lists.{Lists}
use Rattle.dds_weights.specs.Lists.{Certificate}
use Rattle.dds_text.specs.Names.{reader_key, reader_name, rule_text, writer_key, writer_name}
use Rattle.dds_weights.specs.Naming.{row_name}
use Rattle.dds_weights.specs.Views.{certificate_view}
use Rattle.dds_weights.specs.declared.certificate.Bound.{Bound}
use Rattle.dds_weights.specs.declared.certificate.Total.{Total}
use Rattle.dds_check.specs.Verdict.{number_of, name_of}
use Rattle.dds_check.specs.declared.verdict.No.{No}
use Rattle.dds_check.specs.declared.verdict.Subject.{Subject}
use Rattle.dds_check.specs.declared.verdict.Subject.TheVariants as subject
use Rattle.dds_answers.specs.Report.{because_lines}
use Rattle.dds_options.specs.declared.detail.Detail.{Detail}
use Rattle.dds_options.specs.declared.detail.Detail.TheVariants.{Plain, Explained}
use Rattle.dds_answers.specs.declared.report.Report.{Report}
use Rattle.dds_answers.specs.declared.report.Report.TheVariants as answer

-- the answer, and its reason where it is printed
abbrev pub answered : List ℕ → Option (List ℕ) → Members → Members
answered answer None members = member (codes "answer") (string answer) members
answered answer (Some because) members = member (codes "answer") (string answer) (member (codes "because") (string because) members)

-- the bound of an instance
abbrev pub bound_document : Lists → Bound → Data
bound_document d b =
    object (member (codes "bound") (number (unsigned b.bound)) (member (codes "key") (string (reader_key d b.reader b.key)) (member (codes "reader") (string (reader_name d b.reader)) no_members)))

-- the bound of all samples of a reader
abbrev pub total_document : Lists → Total → Data
total_document d t = object (member (codes "bound") (number (unsigned t.bound)) (member (codes "reader") (string (reader_name d t.reader)) no_members))

-- yes, with each bound and each total
abbrev pub acceptance_document : Lists → Certificate → Option (List ℕ) → Data
acceptance_document d c because =
    object (answered (codes "yes") because (member (codes "bounds") (array (items_of (map (bound_document d) c.bounds))) (member (codes "totals") (array (items_of (map (total_document d) c.totals))) no_members)))

-- a writer, a reader and a key of it, by name
abbrev pub pair_key_document : Lists → ℕ → ℕ → ℕ → Data
pair_key_document d w r k =
    object (member (codes "key") (string (reader_key d r k)) (member (codes "reader") (string (reader_name d r)) (member (codes "writer") (string (writer_name d w)) no_members)))

-- what a condition speaks of, by name
abbrev pub subject_document : Lists → Certificate → Subject → Data
subject_document d c (subject.Pair w r) =
    object (member (codes "reader") (string (reader_name d r)) (member (codes "writer") (string (writer_name d w)) no_members))
subject_document d c (subject.PairKey w r k) = pair_key_document d w r k
subject_document d c (subject.Instance r k) = object (member (codes "key") (string (reader_key d r k)) (member (codes "reader") (string (reader_name d r)) no_members))
subject_document d c (subject.Reader r) = object (member (codes "reader") (string (reader_name d r)) no_members)
subject_document d c (subject.Writer w) = object (member (codes "writer") (string (writer_name d w)) no_members)
subject_document d c (subject.RowInstance n r k) =
    object (member (codes "key") (string (reader_key d r k)) (member (codes "reader") (string (reader_name d r)) (member (codes "row") (string (row_name c n)) no_members)))
subject_document d c (subject.RowRule n u) = object (member (codes "row") (string (row_name c n)) (member (codes "rule") (string (rule_text d u)) no_members))
subject_document d c (subject.RowWriterKey n w k) =
    object (member (codes "key") (string (writer_key d w k)) (member (codes "row") (string (row_name c n)) (member (codes "writer") (string (writer_name d w)) no_members)))

-- no, with the condition that fails and what it speaks of
abbrev pub refusal_document : Lists → Certificate → No → Option (List ℕ) → Data
refusal_document d c first because =
    object (answered (codes "no") because (member (codes "name") (string (name_of first.number)) (member (codes "number") (number (unsigned (number_of first.number))) (member (codes "subject") (subject_document d c first.subject) no_members))))

-- the document of a report, with its reason where it is printed
abbrev pub report_document : Report → Option (List ℕ) → Data
report_document (answer.Yes checked) because = acceptance_document checked.plan checked.certificate because
report_document (answer.Refused first lists cert) because = refusal_document lists (certificate_view cert) first because

-- the reason of a report, where it is asked for
abbrev pub reason_of : Report → Detail → Option (List ℕ)
reason_of report Plain = None
reason_of report Explained = Some (because_lines report)

-- the certificate is accepted
abbrev pub is_accepted : Report → Bool
is_accepted (answer.Yes checked) = true
is_accepted (answer.Refused first lists cert) = false
