use Rattle.dds_guard.proofs.Following.{goes_on}
use Rattle.dds_guard.proofs.laws.follows.Goals as goal

pub returns : goal.returns
returns c = goes_on
