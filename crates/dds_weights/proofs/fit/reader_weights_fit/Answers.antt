use Rattle.std.proofs.Common.{sym, ◌∙◌}
use Rattle.dds_weights.proofs.FitLaws.{weights_heard_within}
use Rattle.dds_weights.proofs.fit.reader_weights_fit.Goals as goal

pub weights_name_nothing_twice-requires : goal.weights_name_nothing_twice-requires
weights_name_nothing_twice-requires c = weights_heard_within c.args.plan.now c.args.weights.now c.requires (sym c.readers_hear.ensures ∙ c.if-readers_hear.true)
