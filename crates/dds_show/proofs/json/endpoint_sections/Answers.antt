use Rattle.dds_show.proofs.json.endpoint_sections.Goals as goal

pub returns : goal.returns
returns c = rw (c.in_ok-participants.ensures, c.in_ok-topics.ensures, c.in_ok-writers.ensures, c.in_ok-readers.ensures) at c.format.ensures.ok
