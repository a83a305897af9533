use Rattle.std.proofs.Common.{◌∙◌, ◌<◌, ap, arith, length, refl, replicate, set, slice_index, sym}
use Rattle.std.proofs.Math.ListN.{length-set}
use Rattle.std.proofs.lemmas.List.{get_or-set_same, get_or-set_other}
use Rattle.dds_match.specs.Plan.{network_of}
use Rattle.dds_lint.proofs.FiringLaws.{fewer_left, least_more, least_zero, zero_at}
use Rattle.dds_lint.proofs.firings.settle.Goals as goal

pub loop-rise-init : goal.loop-rise-init
loop-rise-init c = record {
  len = refl;
  least = λ u inside. least_zero (network_of c.args.plan.now) 256 u;
  sent = c.open.ensures (slice_index (replicate 256 0)) (zero_at 256);
}

pub loop-rise-smaller : goal.loop-rise-smaller
loop-rise-smaller c =
    let few = c.in-Some.ensures.few in
    let len = c.loop-rise.invariant.len in
    let inside : c.in-Some.rise.rule < length c.loop-rise.limits = omega arith in
    fewer_left c.loop-rise.limits c.in-Some.rise.rule c.in-Some.rise.firings inside c.in-Some.ensures.most c.in-Some.ensures.more

pub loop-rise-preserved : goal.loop-rise-preserved
loop-rise-preserved c =
    let limits = c.loop-rise.limits in
    let u = c.in-Some.rise.rule in
    let n = c.in-Some.rise.firings in
    let few = c.in-Some.ensures.few in
    let len = c.loop-rise.invariant.len in
    let inside : u < length limits = omega arith in
    record {
      len = length-set limits u n ∙ len;
      least = least_more (network_of c.args.plan.now) limits u n c.in-Some.ensures.inside c.in-Some.ensures.most c.loop-rise.invariant.least c.in-Some.ensures.fires;
      sent = c.raise.ensures (slice_index limits) (slice_index (set limits u n)) (ap (slice_index limits) c.new.ensures) (ap (slice_index (set limits u n)) c.new.ensures ∙ get_or-set_same limits u n 0 inside)
          (λ v apart. get_or-set_other limits u v n 0 (λ e. apart (e ∙ sym c.new.ensures))) c.loop-rise.invariant.sent;
    }

pub returns : goal.returns
returns c = record { each = c.loop-rise.invariant.least; closed = c.in_default.ensures.closed }
