use Rattle.dds_xml.proofs.document.profile_sections.Goals as goal

pub returns : goal.returns
returns c = rw (c.in_ok-types.ensures, c.in_ok-writers.ensures, c.in_ok-readers.ensures) at c.format.ensures.ok
