use Rattle.std.proofs.Common.{sym, ◌∙◌}
use Rattle.dds_weights.proofs.FitLaws.{bounds_heard_within}
use Rattle.dds_weights.proofs.fit.bounds_fit.Goals as goal

pub bounds_name_nothing_twice-requires : goal.bounds_name_nothing_twice-requires
bounds_name_nothing_twice-requires c = bounds_heard_within c.args.plan.now c.args.rows c.args.bounds.now c.requires (sym c.each_bound_fits.ensures ∙ c.if-each_bound_fits.true)
