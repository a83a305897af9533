use Rattle.std.proofs.Common.{ℕ, ◌<◌, Bool, ap, sym, ◌∙◌, arith}
use Rattle.dds_match.specs.Plan.{network_of}
use Rattle.dds_check.specs.Limits.{gives_more}
use Rattle.dds_check.proofs.AnyBelow.{any_below_passes}
use Rattle.dds_check.proofs.finite.is_given_more.Goals as goal

pub returns-then-rule_gives_more : goal.returns-then-rule_gives_more
returns-then-rule_gives_more c =
    let net = network_of c.args.plan.now in
    let gives : ℕ → Bool = λ u. gives_more (net.rule u) c.args.writer c.args.key in
    let low : c.loop-u.u < net.rules = omega arith in
    sym (any_below_passes net.rules gives c.loop-u.u low (ap gives (sym c.new.ensures) ∙ sym c.rule_gives_more.ensures ∙ c.if-rule_gives_more.true))
