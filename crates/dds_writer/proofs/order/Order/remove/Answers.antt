use Rattle.std.proofs.Common.{rules}
use Rattle.dds_writer.proofs.PairLaws.{removed}
use Rattle.dds_writer.proofs.order.Order.remove.Goals as goal

pub returns : goal.returns
returns c = removed c.args.self.now.pairs c.remove.new.self c.args.key c.args.sn (search rules)
