use Rattle.dds_propose.proofs.Tables.{zeros}
use Rattle.dds_propose.proofs.weights.Table.zero.Goals as goal

pub returns : goal.returns
returns c = λ e k. zeros 16384 _ e k (c.in_ok-cells.ensures.items_if_clones_equal (λ y same. same))
