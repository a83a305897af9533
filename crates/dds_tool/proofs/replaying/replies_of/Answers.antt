use Rattle.std.proofs.Common.{◌∙◌}
use Rattle.dds_domain.specs.Standing.{paired}
use Rattle.dds_tool.proofs.Replays.{run_of}
use Rattle.dds_tool.proofs.replaying.replies_of.Goals as goal

pub returns-clause-run : goal.returns-clause-run
returns-clause-run c = run_of c.args.plan c.in-Ok.simulator c.run.new.self (paired c.args.events.now c.in-Ok-run.replies.items) c.in-Ok.ensures.opening c.in-Ok-run.ensures.runs (c.in-Ok-run.ensures.plan ∙ c.in-Ok.ensures.plan)
