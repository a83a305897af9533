use Rattle.std.proofs.Common.{None}
use Rattle.dds_findings.specs.Answers.{names_of}
use Rattle.dds_request.specs.Request.{style_of_task}
use Rattle.dds_tool.specs.Commands.{MayEnd}
use Rattle.dds_tool.proofs.Ending.{memory_fault}
use Rattle.dds_tool.proofs.Outcomes.{task_fails, task_gives}
use Rattle.dds_tool.proofs.commands.answer_task.Goals as goal

pub render-requires : goal.render-requires
render-requires g c = (c.in-Ok.ensures.comes c.args.file.now.name.now).0

pub returns-in-Ok-clause-gives : goal.returns-in-Ok-clause-gives
returns-in-Ok-clause-gives g c =
    let name = c.args.file.now.name.now in
    task_gives (names_of name None) c.names_of-names.result (style_of_task c.args.task) c.style-style.result (MayEnd c.args.task name c.args.file.now.bytes.now) c.in-Ok.outcome c.render.result
    c.names_of-names.ensures c.style-style.ensures (c.in-Ok.ensures.comes name) c.render.ensures.gives

pub returns-in-Ok-clause-fault : goal.returns-in-Ok-clause-fault
returns-in-Ok-clause-fault g c = memory_fault c.render.result c.render.ensures.memory

pub returns-in-Err-clause-gives : goal.returns-in-Err-clause-gives
returns-in-Err-clause-gives g c =
    let name = c.args.file.now.name.now in
    task_fails (names_of name None) (style_of_task c.args.task) (MayEnd c.args.task name c.args.file.now.bytes.now) c.in-Err.fault (c.in-Err.ensures.comes name)
