use Rattle.std.proofs.Common.{refl}
use Rattle.dds_base.specs.Sums.{any_below}
use Rattle.dds_recap.proofs.waits.waits.Goals as goal

pub loop-rule-init : goal.loop-rule-init
unfolding any_below
loop-rule-init c = refl
