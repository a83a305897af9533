use Rattle.std.proofs.Common.{refl, true}
use Rattle.dds_json.proofs.Ends.{line_gives}
use Rattle.dds_tool.specs.Replaying.{told_replay}
use Rattle.dds_tool.proofs.replaying.answer_replay.Goals as goal

pub returns-clause-gives : goal.returns-clause-gives
returns-clause-gives c =
    line_gives c.replay_text-text.result c.answer_with.result (told_replay c.args.style c.args.plan c.args.events.items c.args.replies.items) true true refl
    c.answer_with.ensures.answer c.answer_with.ensures.text c.answer_with.ensures.memory c.replay_text-text.ensures
