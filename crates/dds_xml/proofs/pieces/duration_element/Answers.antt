use Rattle.dds_xml.proofs.pieces.duration_element.Goals as goal

pub returns : goal.returns
returns c = rw (c.in_ok-seconds.ensures, c.in_ok-rest.ensures) at c.format.ensures.ok
