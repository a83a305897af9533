use Rattle.std.proofs.Common.{sym, ◌∙◌}
use Rattle.dds_weights.specs.Views.{certificate_view}
use Rattle.dds_check.proofs.Fitting.{few_rows}
use Rattle.dds_claims.proofs.Unlimited.{shown_where_none}
use Rattle.dds_claims.proofs.claims.shows.Goals as goal

pub shown_no-requires : goal.shown_no-requires
shown_no-requires c = few_rows _ _ c.requires.fits

pub returns-in-None-shown_no-clause-shown : goal.returns-in-None-shown_no-clause-shown
returns-in-None-shown_no-clause-shown c = λ _. shown_where_none c.args.plan.now (certificate_view c.args.certificate.now) c.assert_well_formed.ensures.well_formed (sym c.rows_no.ensures ∙ c.in-None.is) (sym c.shown_no.ensures ∙ c.in-None-shown_no.is)
