use Rattle.dds_xml.proofs.profiles.reader_profile.Goals as goal

pub returns : goal.returns
returns c = rw (c.as_slice-partitions.ensures.value) at c.profile.ensures
