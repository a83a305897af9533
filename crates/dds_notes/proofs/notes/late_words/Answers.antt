use Rattle.dds_notes.proofs.notes.late_words.Goals as goal

pub returns : goal.returns
returns c = rw (← c.writer_name-writer.ensures, ← c.reader_name-reader.ensures) c.format.ensures.ok
