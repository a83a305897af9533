use Rattle.dds_xml.proofs.topics.topic_element.Goals as goal

pub returns : goal.returns
returns c = rw (c.in_ok-type_ref.ensures) at c.format.ensures.ok
