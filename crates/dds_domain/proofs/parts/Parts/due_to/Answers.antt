use Rattle.dds_domain.proofs.parts.Parts.due_to.Goals as goal

pub returns-in-Heartbeat : goal.returns-in-Heartbeat
returns-in-Heartbeat c = λ v noted at. rw c.in-Heartbeat.is (c.heartbeat_due.ensures v noted at)
