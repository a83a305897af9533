use Rattle.std.proofs.Common.{subst, ◌∙◌, arith}
use Rattle.dds_match.specs.Plan.{network_of}
use Rattle.dds_weights.specs.Views.{certificate_view}
use Rattle.dds_propose.specs.Proposal.{AddsTargets, no_rows}
use Rattle.dds_propose.proofs.Proposals.{leads_first, leads_next, leads_last}
use Rattle.dds_propose.proofs.Reached.{reached_at}
use Rattle.dds_propose.proofs.proposer.candidate.Goals as goal

pub loop-target-init : goal.loop-target-init
loop-target-init c = leads_first (network_of c.args.plan.now) c.deref-target-items.result.now _ _ _ c.new.ensures.items c.new-2.ensures.items c.new-3.ensures.items

pub add_target-requires : goal.add_target-requires
add_target-requires c =
    reached_at (network_of c.args.plan.now) c.deref-target-items.result.now c.loop-target.target-index c.target-item.result (c.deref-target-items.ensures.value ∙ c.in_ok-targets.ensures) c.loop-target-test.true c.target-item.is

pub loop-target-preserved : goal.loop-target-preserved
loop-target-preserved c =
    leads_next (network_of c.args.plan.now) c.deref-target-items.result.now c.loop-target.target-index c.target-item.result (certificate_view c.loop-target.certificate) (certificate_view c.add_target.new.certificate)
    c.loop-target-test.true c.target-item.is c.loop-target.invariant (c.in_ok-add_target.ensures c.if-not-branch.false)

pub returns : goal.returns
returns c =
    let net = network_of c.args.plan.now in
    let ts = c.deref-target-items.result.now in
    let made = certificate_view c.loop-target.certificate in
    subst (λ xs. AddsTargets net xs no_rows made) (c.deref-target-items.ensures.value ∙ c.in_ok-targets.ensures) (leads_last net ts c.loop-target.target-index made (omega arith) c.loop-target.invariant)
