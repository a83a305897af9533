use Rattle.std.proofs.Common.{sym, ap, ◌∙◌}
use Rattle.dds_match.specs.Network.{reach}
use Rattle.dds_match.specs.Plan.{network_of}
use Rattle.dds_propose.proofs.Flags.{none_below, none_more, any_at}
use Rattle.dds_propose.proofs.targets.is_reached.Goals as goal

pub loop-k-init : goal.loop-k-init
loop-k-init c = none_below _

pub returns-then-reaches : goal.returns-then-reaches
returns-then-reaches c =
    let reached = reach (network_of c.args.plan.now) c.args.reader in
    sym (any_at reached 64 c.loop-k.k c.loop-k-test.true (ap reached (sym c.new.ensures) ∙ (sym c.reaches.ensures ∙ c.if-reaches.true)))

pub loop-k-preserved : goal.loop-k-preserved
loop-k-preserved c =
    let reached = reach (network_of c.args.plan.now) c.args.reader in
    none_more reached c.loop-k.k c.loop-k.invariant (ap reached (sym c.new.ensures) ∙ (sym c.reaches.ensures ∙ c.if-reaches.false))
