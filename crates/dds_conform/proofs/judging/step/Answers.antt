use Rattle.std.proofs.Common.{sym, subst}
use Rattle.dds_match.specs.Plan.{network_of}
use Rattle.dds_conform.specs.Judging.{IsProgress}
use Rattle.dds_conform.proofs.judging.step.Goals as goal

pub returns-in-Write : goal.returns-in-Write
returns-in-Write c = subst (λ x. IsProgress (network_of c.args.plan.now) x c.args.ledger.now c.write.new.ledger c.write.result) (sym c.in-Write.is) c.write.ensures

pub returns-in-Take : goal.returns-in-Take
returns-in-Take c = subst (λ x. IsProgress (network_of c.args.plan.now) x c.args.ledger.now c.take.new.ledger c.take.result) (sym c.in-Take.is) c.take.ensures
