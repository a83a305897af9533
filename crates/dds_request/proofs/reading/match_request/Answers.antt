use Rattle.std.proofs.Common.{◌∙◌, ap, sym}
use Rattle.clap.specs.Words.{found_of, rows_of}
use Rattle.dds_request.specs.Asking.{is_printed}
use Rattle.dds_request.specs.declared.request.Comparison.{Comparison}
use Rattle.dds_request.proofs.Requested.{matches_one, matches_printed}
use Rattle.dds_request.proofs.reading.match_request.Goals as goal

pub returns-in_err-deployment-clause-unasked : goal.returns-in_err-deployment-clause-unasked
returns-in_err-deployment-clause-unasked c = λ r named asks. absurd (matches_one (rows_of (found_of c.args.matches.now)) r named asks c.in_err-deployment.ensures.none)

pub returns-else-is_printed-clause-unasked : goal.returns-else-is_printed-clause-unasked
returns-else-is_printed-clause-unasked c = λ r named asks.
    let style = c.in_ok-deployment.style in
    matches_printed (rows_of (found_of c.args.matches.now)) r named asks style c.in_ok-deployment.ensures.named.1
    (ap (λ (what : Comparison). is_printed what style) (sym c.comparison-what.ensures) ∙ (sym c.is_printed.ensures ∙ c.if-is_printed.false))
