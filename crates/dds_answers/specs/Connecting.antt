-- How a command ends that prints the connections that the pairs which match would be.
use Rattle.std.specs.Prelude.{Ok, Err, true}
use Rattle.dds_fields.specs.Reading.{Read}
use Rattle.dds_lists.specs.Lists.{Lists}
use Rattle.dds_show.specs.Connections.{connections_text}
use Rattle.dds_answers.specs.Outcome.{Outcome, bad_deployment, said}

-- the tables of the pairs that match, whatever the connections are
abbrev pub connected : Lists → Outcome
connected d = said (connections_text d) true

-- they are printed, if the bytes are a deployment
abbrev pub connecting : Read Lists → Outcome
connecting (Ok lists) = connected lists
connecting (Err flaw) = bad_deployment flaw
