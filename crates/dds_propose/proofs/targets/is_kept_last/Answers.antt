use Rattle.std.proofs.Common.{ℕ, ◌<◌, Bool, ◌&&◌, is_some, length, sym, ap, subst, ◌∙◌}
use Rattle.dds_lists.specs.Lists.{Lists}
use Rattle.dds_match.specs.Network.{is_written}
use Rattle.dds_match.specs.Plan.{network_of}
use Rattle.dds_propose.proofs.Flags.{none_below, none_more, any_at}
use Rattle.dds_propose.proofs.targets.is_kept_last.Goals as goal

pub loop-w-init : goal.loop-w-init
loop-w-init c = none_below _

pub returns-then-keeps_last : goal.returns-then-keeps_last
returns-then-keeps_last c =
    let net = network_of c.args.plan.now in
    let keeps : ℕ → Bool = λ w. net.matched w c.args.reader && (is_some (net.writer_limits w).keep_last && is_written net w c.args.key) in
    let within : c.loop-w.w < net.writers = subst (λ n. c.loop-w.w < n) (c.writers-w-end.ensures.count ∙ ap (λ (d : Lists). length d.writers.entries) c.lists.ensures.value) c.loop-w-test.true in
    sym (any_at keeps net.writers c.loop-w.w within (ap keeps (sym c.new.ensures) ∙ (sym c.keeps_last.ensures ∙ c.if-keeps_last.true)))

pub loop-w-preserved : goal.loop-w-preserved
loop-w-preserved c =
    let net = network_of c.args.plan.now in
    let keeps : ℕ → Bool = λ w. net.matched w c.args.reader && (is_some (net.writer_limits w).keep_last && is_written net w c.args.key) in
    none_more keeps c.loop-w.w c.loop-w.invariant (ap keeps (sym c.new.ensures) ∙ (sym c.keeps_last.ensures ∙ c.if-keeps_last.false))
