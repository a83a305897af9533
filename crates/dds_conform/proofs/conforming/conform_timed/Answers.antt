use Rattle.std.proofs.Common.{length, subst}
use Rattle.std.proofs.lemmas.Result.{IfOk-weaker}
use Rattle.dds_conform.specs.Breaches.{KeepsClocks}
use Rattle.dds_conform.specs.Windows.{IsFound, end_of}
use Rattle.dds_conform.proofs.Clocked.{answer_whole, rules_whole}
use Rattle.dds_conform.proofs.conforming.conform_timed.Goals as goal

pub returns-in-None : goal.returns-in-None
returns-in-None c = IfOk-weaker c.conform_rules.result _ _ (λ answer is. rules_whole c.args.plan.now c.args.entries.now c.args.times.now answer is (subst (λ b. KeepsClocks c.args.plan.now c.args.entries.now c.args.times.now (end_of b (length c.args.entries.now))) c.in-None.is c.in_ok-first.ensures.kept)) c.conform_rules.ensures

pub returns-in-Some : goal.returns-in-Some
returns-in-Some c = IfOk-weaker c.conform_up_to.result _ _ (λ answer is. answer_whole c.args.plan.now c.args.entries.now c.args.times.now c.in-Some.breach answer is
    (subst (IsFound c.args.plan.now c.args.entries.now c.args.times.now (length c.args.entries.now)) c.in-Some.is c.in_ok-first.ensures.found).1
    (subst (λ b. KeepsClocks c.args.plan.now c.args.entries.now c.args.times.now (end_of b (length c.args.entries.now))) c.in-Some.is c.in_ok-first.ensures.kept)) c.conform_up_to.ensures
