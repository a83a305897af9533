use Rattle.std.proofs.Common.{refl, ap, ◌∙◌}
use Rattle.dds_match.specs.Plan.{network_of}
use Rattle.dds_propose.specs.Relaxation.{seen}
use Rattle.dds_propose.specs.Tables.{cell}
use Rattle.dds_propose.proofs.OneRound.{all_followed, one_round}
use Rattle.dds_propose.proofs.Seeing.{seen_known}
use Rattle.dds_propose.proofs.rounds.round.Goals as goal

pub raise_samples-samples-requires : goal.raise_samples-samples-requires
raise_samples-samples-requires c = λ r k.
    let before = all_followed (seen c.args.carrying (network_of c.args.plan.now)) c.args.target.now c.args.weights.now c.follow_target.new.weights c.follow_needs.new.weights _ _ c.requires
    c.in_ok-by_target.ensures.followed c.in_ok-by_target.ensures.done c.in_ok-by_needs.ensures.followed c.in_ok-by_needs.ensures.done r k in
    ap (λ t. cell t r k) c.in_ok-takes.ensures.risen ∙ before

pub returns : goal.returns
returns c =
    let net = seen c.args.carrying (network_of c.args.plan.now) in
    let w0 = c.args.weights.now in
    let w1 = c.follow_target.new.weights in
    let w2 = c.follow_needs.new.weights in
    let w3 = c.raise_takes.new.weights in
    let w4 = c.raise_samples-samples.new.weights in
    let none = all_followed net c.args.target.now w0 w1 w2 _ _ c.requires c.in_ok-by_target.ensures.followed c.in_ok-by_target.ensures.done c.in_ok-by_needs.ensures.followed c.in_ok-by_needs.ensures.done in
    one_round net (seen_known c.args.carrying (network_of c.args.plan.now) c.assert_well_formed.ensures.network) c.args.target.now w0 w1 w2 w3 w4 c.in_ok-by_target.by_target c.in_ok-by_needs.by_needs c.in_ok-takes.takes c.raise_samples-samples.result _ refl
    c.requires c.in_ok-by_target.ensures.followed c.in_ok-by_needs.ensures.followed none c.in_ok-takes.ensures c.raise_samples-samples.ensures.raised c.raise_samples-samples.ensures.done
