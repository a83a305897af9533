use Rattle.std.proofs.Common.{sym, ◌∙◌}
use Rattle.dds_weights.specs.Views.{certificate_view}
use Rattle.dds_check.proofs.Fitting.{few_rows}
use Rattle.dds_check.proofs.Whole.{accepted_where_none}
use Rattle.dds_runs.proofs.Safety.{safe_law}
use Rattle.dds_check.proofs.accepts.accepts.Goals as goal

pub first_no-requires : goal.first_no-requires
first_no-requires c = few_rows _ _ c.requires.fits

pub returns-in-None-clause-holds : goal.returns-in-None-clause-holds
returns-in-None-clause-holds c =
    accepted_where_none c.args.plan.now (certificate_view c.args.certificate.now) c.assert_well_formed.ensures.well_formed (sym c.first_no.ensures ∙ c.in-None.is)

pub returns-in-None-clause-safe : goal.returns-in-None-clause-safe
returns-in-None-clause-safe c =
    let accepted = accepted_where_none c.args.plan.now (certificate_view c.args.certificate.now) c.assert_well_formed.ensures.well_formed (sym c.first_no.ensures ∙ c.in-None.is) in
    safe_law _ _ c.assert_well_formed.ensures.network accepted
