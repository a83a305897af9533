use Rattle.std.proofs.Common.{rules, ◌≡◌, ◌++◌, ◌∷◌, [], subst}
use Rattle.dds_lists.specs.Lists.{Lists}
use Rattle.dds_match.specs.Plan.{network_of}
use Rattle.dds_domain.specs.Standing.{paired}
use Rattle.dds_search.specs.Refuted.{LosesAfter}
use Rattle.dds_search.proofs.Witnessed.{witnessed}
use Rattle.dds_search.proofs.loss.witness.witness.Goals as goal

pub returns-clause-refutes : goal.returns-clause-refutes
returns-clause-refutes c =
    let all : c.args.events.items ≡ c.in-Some.before.now ++ c.in-Some.last.now ∷ [] = search rules in
    let more : c.push.new.self.items ≡ c.in-Some-ending.field-0.replies.items ++ c.in-Some-ending.field-0.told.reply ∷ [] = search rules in
    let same = rw c.in-Some-ending.is at c.in_ok-ending.ensures.all in
    let told = rw c.in-Some-ending.is at c.in_ok-ending.ensures.told in
    witnessed (network_of c.args.plan) c.args.events.items c.in-Some.before.now c.in-Some.last.now c.in-Some-ending.field-0.replies.items c.push.new.self.items c.in-Some-ending.field-0.told.reply
    c.in-Some-ending.field-0.told.reader c.in-Some-ending.field-0.told.key c.in-Some-ending.field-0.told.loss all same more
    (subst (λ (p : Lists). LosesAfter (network_of p) (paired c.in-Some.before.now c.in-Some-ending.field-0.replies.items) c.in-Some.last.now c.in-Some-ending.field-0.told.reply
    c.in-Some-ending.field-0.told.reader c.in-Some-ending.field-0.told.key c.in-Some-ending.field-0.told.loss) c.in-Ok.ensures.plan (told c.in-Ok.ensures.opening))
