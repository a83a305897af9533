use Rattle.std.proofs.Common.{ap, subst}
use Rattle.std.proofs.lemmas.Result.{IfOk-weaker}
use Rattle.dds_lists.specs.Lists.{Lists}
use Rattle.dds_runs.specs.Runs.{as_moves}
use Rattle.dds_book.specs.Journal.{IsJournal, pairs_of}
use Rattle.dds_peers.proofs.run.run_all.Goals as goal

pub returns-in-Ok-clause-safe : goal.returns-in-Ok-clause-safe
returns-in-Ok-clause-safe g c =
    IfOk-weaker c.perform.result _ _
    (λ o journal. c.plan.ensures.accepted.safe.runs (as_moves (pairs_of o.journal)) (subst (λ (plan : Lists). IsJournal plan o.journal) (ap (λ k. k.plan) c.in-Ok.ensures.plan) journal).run)
    c.perform.ensures.journal
