use Rattle.std.proofs.Common.{refl}
use Rattle.dds_match.specs.Plan.{network_of}
use Rattle.dds_propose.specs.Relaxation.{seen}
use Rattle.dds_propose.proofs.Samples.{samples_then, done_next}
use Rattle.dds_propose.proofs.rounds.raise_samples.Goals as goal

pub loop-u-preserved : goal.loop-u-preserved
loop-u-preserved c =
    let new = c.raise_need-raised.new.weights in
    let raised = c.raise_need-raised.ensures.raised in
    record {
      raised = samples_then c.args.weights.now c.loop-u.weights new c.loop-u.changed c.raise_need-raised.result _ refl c.loop-u.invariant.raised raised;
      done = done_next (seen c.args.carrying (network_of c.args.plan.now)) c.loop-u.u c.loop-u.weights new c.raise_need-raised.result raised c.loop-u.invariant.done (rw c.new.ensures at c.raise_need-raised.ensures.done);
    }
