use Rattle.std.proofs.Common.{Result, Ok, Err, IfOk}
use Rattle.dds_peers.proofs.Owners.{made_are_owners}
use Rattle.dds_peers.proofs.gauges.gauge_of.Goals as goal

both : {X E : Type 0} (r : Result X E) (P Q T : X → Type 0) → ((x : X) → P x → Q x → T x) → IfOk r P → IfOk r Q → IfOk r T
both (Ok x) P Q T gives p q = gives x p q
both (Err e) P Q T gives p q = tt

pub returns-clause-seats : goal.returns-clause-seats
returns-clause-seats c = both c.open.result _ _ _ (λ r apps seats. made_are_owners r.0 c.args.apps r.1.items apps seats) c.open.ensures.apps c.open.ensures.seats
