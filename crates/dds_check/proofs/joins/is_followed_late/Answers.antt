use Rattle.std.proofs.Common.{ℕ, ◌<◌, Bool, ap, sym, ◌∙◌, arith}
use Rattle.dds_match.specs.Plan.{network_of}
use Rattle.dds_check.specs.Joins.{follows_late}
use Rattle.dds_check.proofs.AnyBelow.{any_below_passes}
use Rattle.dds_check.proofs.joins.is_followed_late.Goals as goal

pub returns-then-follows_late : goal.returns-then-follows_late
returns-then-follows_late c =
    let net = network_of c.args.plan.now in
    let late : ℕ → Bool = follows_late net c.args.writer in
    let low : c.loop-r.r < net.readers = omega arith in
    sym (any_below_passes net.readers late c.loop-r.r low (ap late (sym c.new.ensures) ∙ sym c.follows_late.ensures ∙ c.if-follows_late.true))
