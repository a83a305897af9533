use Rattle.dds_xml.proofs.profiles.delivery_elements.Goals as goal

pub returns : goal.returns
returns c = rw (c.in_ok-ownership.ensures, c.ownership_word.ensures, c.in_ok-liveliness.ensures, c.in_ok-reliability.ensures, c.reliability_word.ensures, c.in_ok-order.ensures, c.destination_order_word.ensures) at c.format.ensures.ok
