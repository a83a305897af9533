use Rattle.dds_xml.proofs.profiles.timing_elements.Goals as goal

pub returns : goal.returns
returns c = rw (c.in_ok-durability.ensures, c.durability_word.ensures, c.in_ok-deadline.ensures, c.in_ok-budget.ensures) at c.format.ensures.ok
