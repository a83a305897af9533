use Rattle.dds_xml.proofs.profiles.profile.Goals as goal

pub returns : goal.returns
returns c = rw (c.in_ok-own-2.ensures, c.as_str.ensures.value, c.in_ok-own.ensures, c.in_ok-shared-2.ensures, c.as_str-2.ensures.value, c.in_ok-shared.ensures) at c.format.ensures.ok
