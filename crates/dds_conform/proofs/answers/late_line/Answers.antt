use Rattle.dds_conform.proofs.answers.late_line.Goals as goal

pub returns : goal.returns
returns c = rw (c.reader_key-key.ensures, c.requires) at c.format.ensures.ok
