use Rattle.std.proofs.Common.{◌≡◌, map, subst}
use Rattle.dds_lists.specs.Lists.{Lists}
use Rattle.dds_events.specs.Events.{event_text}
use Rattle.dds_events.specs.Reading.{IsFaultOf, said_of}
use Rattle.dds_tool.proofs.Replays.{unsaid_comes}
use Rattle.dds_tool.proofs.replaying.replay_events.Goals as goal

pub returns-in-Ok-clause-comes : goal.returns-in-Ok-clause-comes
returns-in-Ok-clause-comes c = λ names style.
    c.replay_on_plan.ensures.comes names style c.args.events.now c.in-Ok.ensures.text
    (subst (λ (d : Lists). map (event_text d) c.in-Ok.events.items ≡ said_of c.args.events.now) c.lists.ensures.value c.in-Ok.ensures.events)

pub returns-in-Err-clause-comes : goal.returns-in-Err-clause-comes
returns-in-Err-clause-comes c =
    unsaid_comes c.args.plan c.args.events.now c.in-Err.fault c.events_fault.result
    (subst (λ (d : Lists). IsFaultOf d c.args.events.now c.in-Err.fault) c.lists.ensures.value c.in-Err.ensures.fault) c.events_fault.ensures
