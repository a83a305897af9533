use Rattle.std.proofs.Common.{◌∙◌, sym}
use Rattle.clap.specs.Words.{found_of, rows_of}
use Rattle.dds_request.proofs.Requested.{lints_once}
use Rattle.dds_request.proofs.reading.lint_request.Goals as goal

pub returns-in-Some-argument-clause-unasked : goal.returns-in-Some-argument-clause-unasked
returns-in-Some-argument-clause-unasked c = λ r named asks.
    lints_once (rows_of (found_of c.args.matches.now)) r named asks c.in_ok-deployment.deployment.now c.in-Some-argument.second.now (sym c.in_ok-deployment.ensures.named) c.in-Some-argument.ensures
    (sym c.is_input_twice.ensures ∙ c.if-is_input_twice.true)
