use Rattle.std.proofs.Common.{subst}
use Rattle.std.specs.Prelude.{IfOk, IfSome}
use Rattle.dds_lists.specs.Lists.{Lists}
use Rattle.dds_match.specs.Plan.{network_of}
use Rattle.dds_search.specs.Refutations.{IsCounterexample}
use Rattle.dds_search.proofs.loss.witness.concluded.Goals as goal

pub returns-in-Err-Lost-clause-refutes : goal.returns-in-Err-Lost-clause-refutes
returns-in-Err-Lost-clause-refutes c =
    subst (λ (p : Lists). IfOk c.witness.result (λ x. IfSome x.0 (IsCounterexample (network_of p)))) c.end-events.ensures c.witness.ensures.refutes
