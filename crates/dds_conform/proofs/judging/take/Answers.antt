use Rattle.dds_match.specs.Plan.{network_of}
use Rattle.dds_conform.proofs.Reaching.{reached_take}
use Rattle.dds_conform.proofs.judging.take.Goals as goal

pub returns-in-Ok : goal.returns-in-Ok
returns-in-Ok c = λ actions r. reached_take (network_of c.args.plan.now) actions c.args.ledger.now r c.args.reader c.args.key c.note_take.new.self c.in-Ok.ensures.spare c.in-Ok.ensures.permits c.in-Ok.ensures.plan
