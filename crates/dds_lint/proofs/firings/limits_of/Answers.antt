use Rattle.std.proofs.Common.{◌∙◌}
use Rattle.dds_lint.proofs.firings.limits_of.Goals as goal

pub settle-requires : goal.settle-requires
settle-requires c = c.deref_mut.ensures.value ∙ c.in_ok-cells.ensures.items_if_clones_equal (λ y same. same)
