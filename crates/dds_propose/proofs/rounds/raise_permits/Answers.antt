use Rattle.std.proofs.Common.{◌≡◌, ◌+◌, ap, ◌∙◌}
use Rattle.dds_propose.specs.Tables.{cell}
use Rattle.dds_propose.proofs.Raising.{permits_next}
use Rattle.dds_propose.proofs.rounds.raise_permits.Goals as goal

pub loop-writer-preserved : goal.loop-writer-preserved
loop-writer-preserved c =
    let before = c.loop-writer.invariant in
    let sum : c.in-Some.weight ≡ cell c.loop-writer.weights.permits c.writer-item.result c.args.key + c.args.rise = c.in-Some.ensures.1 ∙ ap (λ n. n + c.args.rise) c.at.ensures in
    record {
      samples = before.samples;
      risen = before.risen;
      takes = before.takes;
      permits = permits_next (cell c.args.weights.now.permits) (cell c.loop-writer.weights.permits) (cell c.put.new.self) c.args.writers.now c.loop-writer.writer-index c.writer-item.result c.args.key c.args.rise c.in-Some.weight
          c.loop-writer-test.true c.writer-item.is before.permits sum c.put.ensures;
    }
