use Rattle.std.proofs.Common.{Some}
use Rattle.dds_answers.specs.Outcome.{outcome}
use Rattle.dds_findings.specs.Answers.{names_of}
use Rattle.dds_request.specs.Request.{style_of_pair}
use Rattle.dds_tool.specs.Commands.{MayBreakOff, MayEndPair}
use Rattle.dds_tool.proofs.Ending.{memory_fault, memory_told, pair_fault}
use Rattle.dds_tool.proofs.Outcomes.{pair_gives}
use Rattle.dds_tool.proofs.commands.answer_pair.Goals as goal

pub render-requires : goal.render-requires
render-requires g c = (c.in-Ok.ensures.comes c.args.deployment.now.name.now c.args.second.name.now).0

pub returns-in-Ok-clause-gives : goal.returns-in-Ok-clause-gives
returns-in-Ok-clause-gives g c =
    let name = c.args.deployment.now.name.now in
    let other = c.args.second.name.now in
    let d = c.args.deployment.now.bytes.now in
    let s = c.args.second.bytes.now in
    pair_gives (names_of name (Some other)) c.names_of-names.result (style_of_pair c.args.task) c.style-style.result (MayBreakOff c.args.task (outcome d s))
    (MayEndPair c.args.task name other d s) c.in-Ok.outcome c.render.result c.names_of-names.ensures c.style-style.ensures (c.in-Ok.ensures.comes name other) c.render.ensures.gives

pub returns-in-Ok-clause-told : goal.returns-in-Ok-clause-told
returns-in-Ok-clause-told g c = memory_told c.args.task c.args.deployment.now.bytes.now c.args.second.bytes.now c.render.result c.render.ensures.memory

pub returns-in-Ok-clause-fault : goal.returns-in-Ok-clause-fault
returns-in-Ok-clause-fault g c = pair_fault c.args.task c.render.result (memory_fault c.render.result c.render.ensures.memory)

pub returns-in-Err-clause-gives : goal.returns-in-Err-clause-gives
returns-in-Err-clause-gives g c = c.in-Err.ensures.comes c.args.deployment.now.name.now c.args.second.name.now
