use Rattle.std.proofs.Common.{◌∙◌, sym}
use Rattle.clap.specs.Words.{found_of, rows_of}
use Rattle.dds_request.proofs.Requested.{draws_once}
use Rattle.dds_request.proofs.reading.draw_request.Goals as goal

pub returns-in-Some-clause-unasked : goal.returns-in-Some-clause-unasked
returns-in-Some-clause-unasked c = λ r named asks.
    draws_once (rows_of (found_of c.args.matches.now)) r named asks c.in_ok-deployment.deployment.now c.in-Some.second.now (sym c.in_ok-deployment.ensures.named) c.in-Some.ensures
    (sym c.is_input_twice.ensures ∙ c.if-is_input_twice.true)
