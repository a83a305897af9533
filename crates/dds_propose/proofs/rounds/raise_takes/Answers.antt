use Rattle.std.proofs.Common.{refl, ap, ◌∙◌}
use Rattle.dds_lists.specs.Lists.{Rule}
use Rattle.dds_match.specs.Plan.{network_of}
use Rattle.dds_propose.specs.Relaxation.{seen}
use Rattle.dds_propose.proofs.Takes.{takes_none, takes_next}
use Rattle.dds_propose.proofs.rounds.raise_takes.Goals as goal

pub loop-u-init : goal.loop-u-init
loop-u-init c = record { samples = refl; risen = refl; permits = refl; raised = takes_none _ _ _; still = λ e r k. refl }

pub loop-u-preserved : goal.loop-u-preserved
loop-u-preserved c =
    let net = seen c.args.carrying (network_of c.args.plan.now) in
    let rule = c.counted_rule.ensures.value ∙ ap net.rule c.new.ensures in
    takes_next net c.loop-u.u _ _ c.args.weights.now c.loop-u.weights c.raise_take.new.weights c.loop-u.changed c.in_ok-raised.raised _ refl (ap (λ (x : Rule). x.takes) rule) (ap (λ (x : Rule). x.writes) rule) c.loop-u.invariant c.in_ok-raised.ensures
