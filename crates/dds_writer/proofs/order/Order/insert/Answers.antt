use Rattle.std.proofs.Common.{rules}
use Rattle.dds_writer.proofs.PairLaws.{inserted}
use Rattle.dds_writer.proofs.order.Order.insert.Goals as goal

pub returns-clause-ok : goal.returns-clause-ok
returns-clause-ok c = inserted c.args.self.now.pairs c.insert.new.self c.args.key c.args.sn (search rules)
