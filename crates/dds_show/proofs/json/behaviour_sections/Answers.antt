use Rattle.dds_show.proofs.json.behaviour_sections.Goals as goal

pub returns : goal.returns
returns c = rw (c.in_ok-applications.ensures, c.in_ok-rules.ensures, c.in_ok-connections.ensures) at c.format.ensures.ok
