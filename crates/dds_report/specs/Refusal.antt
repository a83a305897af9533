-- The line that reports a refusal.
use Rattle.std.specs.Prelude.{ℕ, List, ◌++◌, codes}
use Rattle.std.specs.Fmt.{decimal}
use Rattle.dds_lists.specs.Lists.{Lists}
use Rattle.dds_weights.specs.Lists.{Certificate}
use Rattle.dds_text.specs.Names.{reader_key, reader_name, rule_text, writer_key, writer_name}
use Rattle.dds_weights.specs.Naming.{row_name}
use Rattle.dds_check.specs.Verdict.{number_of, name_of}
use Rattle.dds_check.specs.declared.verdict.No.{No}
use Rattle.dds_check.specs.declared.verdict.Subject.{Subject}
use Rattle.dds_check.specs.declared.verdict.Subject.TheVariants as subject
use Rattle.dds_text.specs.Texts.{three_words, two_words}

-- the names of what a condition speaks of
abbrev pub subject_text : Lists → Certificate → Subject → List ℕ
subject_text d c (subject.Pair w r) = two_words (writer_name d w) (reader_name d r)
subject_text d c (subject.PairKey w r k) = three_words (writer_name d w) (reader_name d r) (reader_key d r k)
subject_text d c (subject.Instance r k) = two_words (reader_name d r) (reader_key d r k)
subject_text d c (subject.Reader r) = reader_name d r
subject_text d c (subject.Writer w) = writer_name d w
subject_text d c (subject.RowInstance n r k) = three_words (row_name c n) (reader_name d r) (reader_key d r k)
subject_text d c (subject.RowRule n u) = two_words (row_name c n) (rule_text d u)
subject_text d c (subject.RowWriterKey n w k) = three_words (row_name c n) (writer_name d w) (writer_key d w k)

-- the line of a refusal
abbrev pub refusal_line : Lists → Certificate → No → List ℕ
refusal_line d c first =
    codes "no " ++ (decimal (number_of first.number) ++ (codes " " ++ (name_of first.number ++ (codes " " ++ (subject_text d c first.subject ++ codes "\n")))))
