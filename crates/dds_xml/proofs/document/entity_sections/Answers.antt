use Rattle.dds_xml.proofs.document.entity_sections.Goals as goal

pub returns : goal.returns
returns c = rw (c.in_ok-domain.ensures, c.in_ok-participants.ensures, c.in_ok-applications.ensures) at c.format.ensures.ok
