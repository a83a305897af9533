use Rattle.std.proofs.Common.{◌≡◌, ◌+◌, ◌-◌, Some, slice_get, refl, sym, ap, ◌∙◌, arith}
use Rattle.std.specs.Int.{div_ceil}
use Rattle.std.proofs.lemmas.Bool.{true≢false}
use Rattle.dds_lists.specs.WellFormed.{IsCounted}
use Rattle.dds_match.specs.Network.{weighed}
use Rattle.dds_match.specs.Plan.{network_of}
use Rattle.dds_match.proofs.Known.{all_in}
use Rattle.dds_propose.specs.Relaxation.{needs_of, seen}
use Rattle.dds_propose.specs.Tables.{cell}
use Rattle.dds_propose.proofs.Takes.{first_rest, first_still, first_raised, need_in, need_placed}
use Rattle.dds_propose.proofs.Weighed.{weighed_as}
use Rattle.dds_propose.proofs.Seeing.{seen_known}
use Rattle.dds_propose.proofs.rounds.raise_take.Goals as goal

pub returns-then-written-needed : goal.returns-then-written-needed
returns-then-written-needed c =
    let takes = c.args.rule.now.takes.items in
    let writes = c.args.rule.now.writes.items in
    let permits = cell c.args.weights.now.permits in
    let weights = cell c.args.weights.now.takes in
    let net = seen c.args.carrying (network_of c.args.plan.now) in
    let need = c.in-Some.need in
    let found : slice_get (needs_of net takes) 0 ≡ Some need = ap (λ xs. slice_get (needs_of net xs) 0) (sym c.deref.ensures.value) ∙ sym c.in-Some.ensures in
    let first = first_rest (needs_of net takes) need found in
    let written : c.weighed-written.result ≡ weighed writes permits = c.weighed-written.ensures.value ∙ (weighed_as _ permits ∙ ap (λ ps. weighed ps permits) c.deref-2.ensures.value) in
    let needed : c.needs_weighed-needed.result ≡ weighed (needs_of net takes) weights = c.needs_weighed-needed.ensures.value ∙ ap (λ ps. weighed (needs_of net ps) weights) c.deref-3.ensures.value in
    record {
      samples = refl;
      risen = refl;
      permits = refl;
      raised = first_still (needs_of net takes) need first.0 (weighed writes permits) weights first.1 (omega arith);
      still = λ e r k. refl;
    }

pub returns-in-Ok : goal.returns-in-Ok
returns-in-Ok c =
    let takes = c.args.rule.now.takes.items in
    let writes = c.args.rule.now.writes.items in
    let permits = cell c.args.weights.now.permits in
    let weights = cell c.args.weights.now.takes in
    let net = seen c.args.carrying (network_of c.args.plan.now) in
    let need = c.in-Some.need in
    let found : slice_get (needs_of net takes) 0 ≡ Some need = ap (λ xs. slice_get (needs_of net xs) 0) (sym c.deref.ensures.value) ∙ sym c.in-Some.ensures in
    let first = first_rest (needs_of net takes) need found in
    let written : c.weighed-written.result ≡ weighed writes permits = c.weighed-written.ensures.value ∙ (weighed_as _ permits ∙ ap (λ ps. weighed ps permits) c.deref-2.ensures.value) in
    let needed : c.needs_weighed-needed.result ≡ weighed (needs_of net takes) weights = c.needs_weighed-needed.ensures.value ∙ ap (λ ps. weighed (needs_of net ps) weights) c.deref-3.ensures.value in
    let rise : c.div_ceil-rise.result ≡ div_ceil (weighed writes permits - weighed (needs_of net takes) weights) need.count =
    c.div_ceil-rise.ensures
    ∙ (ap (λ n. div_ceil (n - c.needs_weighed-needed.result) c.from.result) written
    ∙ (ap (λ n. div_ceil (weighed writes permits - n) c.from.result) needed
    ∙ ap (div_ceil (weighed writes permits - weighed (needs_of net takes) weights)) c.from.ensures)) in
    let value : c.in-Ok.weight ≡ weights need.endpoint need.key + div_ceil (weighed writes permits - weighed (needs_of net takes) weights) need.count =
    c.in-Ok.ensures.1 ∙ (ap (λ n. n + c.div_ceil-rise.result) (c.from-2.ensures ∙ c.at.ensures) ∙ ap (λ n. weights need.endpoint need.key + n) rise) in
    record {
      samples = refl;
      risen = refl;
      permits = refl;
      raised = first_raised (needs_of net takes) need first.0 (weighed writes permits) c.in-Ok.weight weights (cell c.put.new.self) first.1 (omega arith) (need_placed net (seen_known c.args.carrying (network_of c.args.plan.now) c.assert_well_formed.ensures.network) refl c.assert_well_formed.ensures.well_formed.readers.few takes need c.requires.heard found) value c.put.ensures;
      still = λ e. absurd (true≢false e);
    }

pub div_ceil-rise-requires : goal.div_ceil-rise-requires
div_ceil-rise-requires c =
    let net = seen c.args.carrying (network_of c.args.plan.now) in
    let takes = c.args.rule.now.takes.items in
    let need = c.in-Some.need in
    let found : slice_get (needs_of net takes) 0 ≡ Some need = ap (λ xs. slice_get (needs_of net xs) 0) (sym c.deref.ensures.value) ∙ sym c.in-Some.ensures in
    let counted = all_in IsCounted takes need c.requires.counted (need_in net takes need found) in
    let one = counted.0 in
    let same = c.from.ensures in
    omega arith
