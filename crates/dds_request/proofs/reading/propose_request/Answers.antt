use Rattle.std.proofs.Common.{◌∙◌, sym}
use Rattle.clap.specs.Words.{found_of, rows_of}
use Rattle.dds_request.proofs.Requested.{proposes_one, searches_one}
use Rattle.dds_request.proofs.reading.propose_request.Goals as goal

pub returns-in_err-deployment-clause-unasked : goal.returns-in_err-deployment-clause-unasked
returns-in_err-deployment-clause-unasked c = λ r named asks.
    absurd (searches_one (rows_of (found_of c.args.matches.now)) r named asks (sym c.is_set.ensures ∙ c.if-is_set.true) c.in_err-deployment.ensures.none)

pub returns-in_err-deployment-2-clause-unasked : goal.returns-in_err-deployment-2-clause-unasked
returns-in_err-deployment-2-clause-unasked c = λ r named asks.
    absurd (proposes_one (rows_of (found_of c.args.matches.now)) r named asks (sym c.is_set.ensures ∙ c.if-is_set.false) c.in_err-deployment-2.ensures.none)
