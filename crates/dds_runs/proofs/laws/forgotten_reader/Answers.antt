use Rattle.dds_runs.proofs.Overflows.{forgotten_reader_law}
use Rattle.dds_runs.proofs.laws.forgotten_reader.Goals as goal

pub returns : goal.returns
returns c = forgotten_reader_law
