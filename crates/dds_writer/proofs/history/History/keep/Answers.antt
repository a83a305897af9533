use Rattle.std.proofs.Common.{rules}
use Rattle.dds_qos.proofs.KeySets.{keys_more}
use Rattle.dds_writer.proofs.history.History.keep.Goals as goal

pub returns-clause-keys : goal.returns-clause-keys
returns-clause-keys c = keys_more c.args.self.now.counts c.insert.new.self c.args.sample.now.key c.count-count.result (search rules)
