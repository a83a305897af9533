use Rattle.clap.specs.Words.{found_of, rows_of}
use Rattle.dds_request.proofs.Requested.{refutes_one}
use Rattle.dds_request.proofs.reading.refute_request.Goals as goal

pub returns-in_err-deployment-clause-unasked : goal.returns-in_err-deployment-clause-unasked
returns-in_err-deployment-clause-unasked c = λ r named asks. absurd (refutes_one (rows_of (found_of c.args.matches.now)) r named asks c.in_err-deployment.ensures.none)
