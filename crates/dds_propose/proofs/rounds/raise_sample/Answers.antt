use Rattle.std.proofs.Common.{arith}
use Rattle.dds_propose.proofs.Tables.{put_found}
use Rattle.dds_propose.proofs.rounds.raise_sample.Goals as goal

pub returns-clause-done : goal.returns-clause-done
returns-clause-done c =
    let take = c.at-take.ensures in
    let found = put_found c.args.weights.now.takes c.put.new.self _ c.args.reader c.args.key _ c.at-take.result c.put.ensures take (omega arith) in
    omega arith
