use Rattle.std.proofs.Common.{◌≡◌, ◌<◌, List, length, get_or, sym, subst, ◌∙◌, rules}
use Rattle.dds_runs.specs.Steps.{Reply}
use Rattle.dds_domain.specs.Standing.{Does, Runs, paired}
use Rattle.dds_domain.proofs.Standing.{has_world, running_step, runs_more, runs_start}
use Rattle.dds_domain.proofs.parts.Parts.run.Goals as goal

-- no event is made yet
pub returns-then-is_err-clause-runs : goal.returns-then-is_err-clause-runs
returns-then-is_err-clause-runs c = subst (λ (rs : List Reply). Runs c.args.self.now (paired c.args.events.now rs) c.args.self.now) (sym (c.reserve.ensures.items ∙ c.new-replies.ensures.items)) (runs_start c.args.events.now c.args.self.now)

-- the loop
pub loop-event-init : goal.loop-event-init
loop-event-init c = record {
  runs = subst (λ (rs : List Reply). Runs c.args.self.now (paired c.args.events.now rs) c.args.self.now) (sym (c.reserve.ensures.items ∙ c.new-replies.ensures.items)) (runs_start c.args.events.now c.args.self.now);
  running = c.requires;
  count = search rules;
  room = search rules;
}

pub step-requires : goal.step-requires
step-requires c = has_world _ c.loop-event.invariant.running

pub loop-event-preserved : goal.loop-event-preserved
loop-event-preserved c =
    let inv = c.loop-event.invariant in
    let e = c.in-Ok.ensures in
    let at : length c.loop-event.replies.items ≡ c.loop-event.event-index = search rules in
    let below : c.loop-event.event-index < length c.args.events.now = search rules in
    let item : get_or c.args.events.now c.loop-event.event-index c.event-item.result ≡ c.event-item.result = search rules in
    let does : Does c.loop-event.self c.event-item.result c.in-Ok.reply c.step.new.self = record { world = e.steps; notes = e.notes; refused = e.refused; plan = e.plan } in
    record {
      runs = subst (λ (rs : List Reply). Runs c.args.self.now (paired c.args.events.now rs) c.step.new.self) (sym c.push_reserved.ensures.items)
          (runs_more c.args.events.now c.loop-event.replies.items c.args.self.now c.loop-event.self c.step.new.self c.event-item.result c.in-Ok.reply c.loop-event.event-index at below inv.runs item does);
      running = running_step c.loop-event.self c.event-item.result c.in-Ok.reply c.step.new.self inv.running e.plan e.steps e.notes;
      count = search rules;
      room = search rules;
    }
