use Rattle.std.proofs.Common.{ℕ, ◌≡◌, ◌∙◌, ◌+◌, ◌*◌, ap, ap₂, arith, length, slice_index, sym}
use Rattle.std.proofs.lemmas.List.{length-replicate}
use Rattle.dds_base.specs.Sums.{total}
use Rattle.dds_match.specs.Plan.{network_of}
use Rattle.dds_lint.specs.Firings.{capped, rounds, sends, sent}
use Rattle.dds_lint.proofs.FiringLaws.{opened_more, total_same, total_zero, zero_at}
use Rattle.dds_lint.proofs.firings.open.Goals as goal

pub loop-u-init : goal.loop-u-init
loop-u-init c =
    let net = network_of c.args.plan.now in
    record {
      len = ap length c.requires ∙ length-replicate {A = ℕ} 16384 0;
      added = λ r k inside low. ap capped (ap (λ xs. slice_index xs (r * 64 + k)) c.requires ∙ (zero_at 16384 (r * 64 + k) ∙ sym (total_zero (λ u. sends net r k u * rounds net u 0))));
    }

pub loop-u-preserved : goal.loop-u-preserved
loop-u-preserved c =
    let net = network_of c.args.plan.now in
    let u = c.loop-u.u in
    record {
      len = c.add.ensures.len;
      added = λ r k inside low. opened_more u (slice_index c.add.new.cells (r * 64 + k)) (slice_index c.loop-u.cells (r * 64 + k)) (λ v. sends net r k v * rounds net v 0)
          (c.add.ensures.added r k inside low
          ∙ ap capped (ap₂ (λ s t. slice_index c.loop-u.cells (r * 64 + k) + s * t) (ap (sends net r k) c.new-rule.ensures) (c.rounds-times.ensures ∙ ap (λ v. rounds net v 0) c.new-rule.ensures)))
          (c.loop-u.invariant.added r k inside low);
    }

pub returns : goal.returns
returns c = λ limit none.
    let net = network_of c.args.plan.now in
    let count = c.rules_of-u-end.ensures.count in
    let all : c.loop-u.u ≡ net.rules = omega (arith, count) in
    record {
      len = c.loop-u.invariant.len;
      shown = λ r k inside low.
          c.loop-u.invariant.added r k inside low
          ∙ ap capped (ap (λ n. total n (λ u. sends net r k u * rounds net u 0)) all
          ∙ total_same net.rules (λ u. sends net r k u * rounds net u 0) (λ u. sends net r k u * rounds net u (limit u)) (λ u below. ap (λ n. sends net r k u * rounds net u n) (sym (none u))));
    }
