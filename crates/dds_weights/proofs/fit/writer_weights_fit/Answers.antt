use Rattle.std.proofs.Common.{sym, ◌∙◌}
use Rattle.dds_weights.proofs.FitLaws.{weights_written_within}
use Rattle.dds_weights.proofs.fit.writer_weights_fit.Goals as goal

pub weights_name_nothing_twice-requires : goal.weights_name_nothing_twice-requires
weights_name_nothing_twice-requires c = weights_written_within c.args.plan.now c.args.weights.now c.requires (sym c.writers_write.ensures ∙ c.if-writers_write.true)
