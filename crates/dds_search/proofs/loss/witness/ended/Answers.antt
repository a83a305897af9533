use Rattle.std.proofs.Common.{List, subst}
use Rattle.dds_match.specs.Plan.{network_of}
use Rattle.dds_runs.specs.Steps.{Reply}
use Rattle.dds_domain.specs.Standing.{StandsAfter, paired}
use Rattle.dds_search.specs.Refuted.{LosesAfter}
use Rattle.dds_search.proofs.Witnessed.{ends}
use Rattle.dds_search.proofs.loss.witness.ended.Goals as goal

pub returns-in-Ok-Some-clause-told : goal.returns-in-Ok-Some-clause-told
returns-in-Ok-Some-clause-told c = λ first.
    let told = rw c.in-Ok-Some.field-0-is at c.in-Ok-Some.ensures.told in
    ends c.args.before.now c.in-Ok.replies.items c.args.last.now c.in-Ok-Some.told.reply c.in-Ok-Some.told.reader c.in-Ok-Some.told.key c.in-Ok-Some.told.loss c.args.simulator c.run.new.self
    c.in-Ok.ensures.runs c.in-Ok.ensures.plan
    (subst (λ (rs : List Reply). StandsAfter (paired c.args.before.now rs) c.run.new.self
    → LosesAfter (network_of c.run.new.self.plan) (paired c.args.before.now rs) c.args.last.now c.in-Ok-Some.told.reply c.in-Ok-Some.told.reader c.in-Ok-Some.told.key c.in-Ok-Some.told.loss)
    c.deref.ensures.value told)
    first
