use Rattle.std.proofs.Common.{◌≡◌, List, Ok, ap, inl, length, subst, true}
use Rattle.dds_lists.specs.Lists.{Lists}
use Rattle.dds_match.specs.Plan.{network_of}
use Rattle.dds_runs.specs.Runs.{IsRun}
use Rattle.dds_runs.specs.Steps.{Event}
use Rattle.dds_domain.specs.Standing.{paired}
use Rattle.dds_answers.specs.Outcome.{said}
use Rattle.dds_tool.specs.Replaying.{MayReplay, told_replay}
use Rattle.dds_tool.proofs.Outcomes.{memory_comes}
use Rattle.dds_tool.proofs.replaying.replay_on_plan.Goals as goal

pub returns-in-Ok-clause-comes : goal.returns-in-Ok-clause-comes
returns-in-Ok-clause-comes c = λ names style bytes text are.
    let events = c.args.events.items in
    let replies = c.in-Ok.replies.items in
    let all = subst (λ (xs : List Event). length replies ≡ length xs) c.deref.ensures.value c.in-Ok.ensures.all in
    let run = subst (λ (xs : List Event). IsRun (network_of c.args.plan) (paired xs replies)) c.deref.ensures.value c.in-Ok.ensures.run in
    (tt, inl (text, events, replies, are, all, run, ap (λ (d : Lists). said (told_replay style d events replies) true) c.in-Ok.ensures.plan))

pub returns-clause-comes : goal.returns-clause-comes
returns-clause-comes c = λ names style bytes text are. memory_comes ⊥ (MayReplay style (Ok c.args.plan) bytes) names style
