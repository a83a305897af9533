-- The section of the writers.
use Rattle.std.specs.Prelude.{codes, ℕ, List, Ok}
use Rattle.toml.specs.Data.{Data, Members}
use Rattle.dds_base.specs.Grid.{most_endpoints}
use Rattle.dds_qos.specs.declared.policies.Reliability.TheVariants.{Reliable}
use Rattle.dds_fields.specs.Reading.{◌>>=◌, Read, a_known_name, field, a_section}
use Rattle.dds_base.specs.Section.{Listed, nothing}
use Rattle.dds_lists.specs.Lists.{Participant, Topic, Writer}
use Rattle.dds_deploy.specs.Policies.{policies, partitions, endpoint_keys, consistent}
use Rattle.dds_deploy.specs.Entries.{one_more}

unfoldable pub writer_fields : Listed Participant → Listed Topic → List ℕ → Members → Read Writer
writer_fields ps ts path ms = do
  p ← field (codes "participant") (a_known_name ps.names) path ms
  t ← field (codes "topic") (a_known_name ts.names) path ms
  q ← policies Reliable path ms
  names ← partitions path ms
  Ok (record { participant = p; topic = t; qos = record { offered = q }; partitions = names })

-- one more writer
abbrev pub writer : Listed Participant → Listed Topic → Listed Writer → List ℕ → Data → Read (Listed Writer)
writer ps ts = one_more endpoint_keys (λ _. consistent (λ w. w.qos.offered) (writer_fields ps ts))

abbrev pub writers : Listed Participant → Listed Topic → Members → Read (Listed Writer)
writers ps ts = a_section (codes "writers") most_endpoints (writer ps ts) nothing
