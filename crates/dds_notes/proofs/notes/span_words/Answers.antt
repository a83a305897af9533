use Rattle.dds_notes.proofs.notes.span_words.Goals as goal

pub returns : goal.returns
returns c = rw (← c.in_ok-rule.ensures, ← c.reader_name-reader.ensures) c.format.ensures.ok
