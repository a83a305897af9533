use Rattle.dds_conform.proofs.answers.early_line.Goals as goal

pub returns : goal.returns
returns c = rw (c.writer_name-writer.ensures, c.writer_key-key.ensures, c.requires) at c.format.ensures.ok
