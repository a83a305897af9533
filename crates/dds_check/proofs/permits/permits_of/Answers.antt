use Rattle.std.proofs.Common.{◌+◌, ◌*◌, ◌^◌, get_or, None, ◌∙◌, ap, refl, arith}
use Rattle.dds_match.specs.Network.{named}
use Rattle.dds_match.specs.Plan.{network_of}
use Rattle.dds_check.specs.Limits.{gives_more}
use Rattle.dds_check.specs.Permits.{with_rule}
use Rattle.dds_check.proofs.Permitted.{most_weaker, none_above, none_added, rule_added}
use Rattle.dds_check.proofs.permits.permits_of.Goals as goal

pub loop-u-init : goal.loop-u-init
loop-u-init c = record {
  each = λ k below. none_added (λ u. gives_more ((network_of c.args.plan.now).rule u) c.args.writer k) (λ u. named ((network_of c.args.plan.now).rule u).writes c.args.writer k * ((network_of c.args.plan.now).rule u).start) 64 k below;
  small = none_above 64 0;
}

pub loop-u-preserved : goal.loop-u-preserved
loop-u-preserved c =
    let net = network_of c.args.plan.now in
    let w = c.args.writer in
    let u = c.loop-u.u in
    record {
      each = λ k below. c.add_rule_at.ensures.each k below ∙ ap (λ v. with_rule (net.rule v) w k (get_or c.loop-u.cells k None)) c.new.ensures
          ∙ rule_added (λ v. gives_more (net.rule v) w k) (λ v. named (net.rule v).writes w k * (net.rule v).start) u (get_or c.loop-u.cells k None) (c.loop-u.invariant.each k below);
      small = most_weaker c.add_rule_at.new.cells c.add_rule_at.new.cells (u * 2 ^ 36 + 2 ^ 36) ((u + 1) * 2 ^ 36) refl (omega arith) (c.add_rule_at.ensures.small (u * 2 ^ 36) c.loop-u.invariant.small);
    }
