use Rattle.dds_search.proofs.Witnessed.{arrives}
use Rattle.dds_search.proofs.loss.witness.arrived.Goals as goal

pub returns-in-Some-loss_of-clause-told : goal.returns-in-Some-loss_of-clause-told
returns-in-Some-loss_of-clause-told c = λ ms stands.
    arrives ms c.args.last.now c.in_ok-reply.reply _ _ c.in-Some-loss_of.loss c.args.simulator.now c.step.new.self
    c.in_ok-reply.ensures.steps c.in_ok-reply.ensures.plan c.in-Some-loss_of.ensures.sample c.in-Some-loss_of.ensures.told c.in-Some.ensures stands
