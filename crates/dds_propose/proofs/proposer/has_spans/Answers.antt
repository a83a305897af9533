use Rattle.std.proofs.Common.{ℕ, ◌<◌, Bool, is_some, length, sym, ap, subst, ◌∙◌}
use Rattle.dds_lists.specs.Lists.{Lists}
use Rattle.dds_match.specs.Paces.{taken_span}
use Rattle.dds_propose.proofs.Flags.{none_below, none_more, any_at}
use Rattle.dds_propose.proofs.proposer.has_spans.Goals as goal

pub loop-r-init : goal.loop-r-init
loop-r-init c = none_below _

pub returns-then-is_some : goal.returns-then-is_some
returns-then-is_some c =
    let has : ℕ → Bool = λ r. is_some (taken_span c.args.plan.now r) in
    let within : c.loop-r.r < length c.args.plan.now.readers.entries = subst (λ n. c.loop-r.r < n) (c.readers-r-end.ensures.count ∙ ap (λ (d : Lists). length d.readers.entries) c.lists.ensures.value) c.loop-r-test.true in
    sym (any_at has (length c.args.plan.now.readers.entries) c.loop-r.r within (ap has (sym c.new.ensures) ∙ (ap is_some (sym c.taken_within.ensures) ∙ (sym c.is_some.ensures ∙ c.if-is_some.true))))

pub loop-r-preserved : goal.loop-r-preserved
loop-r-preserved c =
    let has : ℕ → Bool = λ r. is_some (taken_span c.args.plan.now r) in
    none_more has c.loop-r.r c.loop-r.invariant (ap has (sym c.new.ensures) ∙ (ap is_some (sym c.taken_within.ensures) ∙ (sym c.is_some.ensures ∙ c.if-is_some.false)))
