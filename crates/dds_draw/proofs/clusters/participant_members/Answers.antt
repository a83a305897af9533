use Rattle.dds_draw.specs.Clusters.{participant_members}
use Rattle.dds_draw.proofs.clusters.participant_members.Goals as goal

pub returns : goal.returns
unfolding participant_members
returns c = rw (c.in_ok-applications.ensures, c.in_ok-writers.ensures, c.in_ok-readers.ensures) at c.format.ensures.ok
