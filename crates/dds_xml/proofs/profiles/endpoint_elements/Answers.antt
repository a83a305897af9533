use Rattle.dds_xml.proofs.profiles.endpoint_elements.Goals as goal

pub returns : goal.returns
returns c = rw (c.in_ok-timing.ensures, c.in_ok-delivery.ensures, c.in_ok-history.ensures, c.in_ok-limits.ensures) at c.format.ensures.ok
