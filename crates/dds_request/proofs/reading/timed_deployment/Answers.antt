use Rattle.dds_request.proofs.reading.timed_deployment.Goals as goal

pub returns-in_default-clause-none : goal.returns-in_default-clause-none
returns-in_default-clause-none c = λ d seconds style named counts. c.in_default.ensures.none seconds counts
