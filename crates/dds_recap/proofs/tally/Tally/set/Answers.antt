use Rattle.dds_recap.proofs.Numbers.{number_set}
use Rattle.dds_recap.proofs.tally.Tally.set.Goals as goal

pub returns : goal.returns
returns c = number_set c.args.self.now (record { numbers = c.insert.new.self }) c.args.i c.args.k c.args.number c.in_ok-insert.ensures.updates
