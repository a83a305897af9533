use Rattle.std.proofs.Common.{◌≡◌, ◌<◌, ◌≤◌, ◌∙◌, ℕ, List, ap, Err, length, subst}
use Rattle.dds_answers.specs.Answers.{GivesOneOf}
use Rattle.dds_answers.specs.Reading.{most_bytes}
use Rattle.dds_answers.proofs.FileEnds.{file_gives, held, large_of_file, unread_one}
use Rattle.dds_tool.specs.Commands.{MayEnd, MayEndFile}
use Rattle.dds_tool.proofs.Ending.{file_causes}
use Rattle.dds_tool.proofs.commands.answer_one.Goals as goal

pub returns-in-Ok-clause-gives : goal.returns-in-Ok-clause-gives
returns-in-Ok-clause-gives g c = λ x is.
    let first = held _ x (λ xs. (c.in-Ok.bytes.items ≡ xs) × (length xs ≤ most_bytes)) is c.in-Ok.ensures.bytes in
    let name = c.args.deployment.now in
    file_gives (MayEnd c.args.task name x) x c.answer_task.result first.1
    (subst (λ (bytes : List ℕ). GivesOneOf (MayEnd c.args.task name bytes) c.answer_task.result) (c.as_slice.ensures.value ∙ first.0) c.answer_task.ensures.gives)

pub returns-in-Err-clause-gives : goal.returns-in-Err-clause-gives
returns-in-Err-clause-gives g c = λ x is.
    let name = c.args.deployment.now in
    unread_one (MayEndFile c.args.task name x) c.in-Err.fault c.in-Err.ensures.faults
    (λ same. large_of_file (MayEnd c.args.task name x) x (held _ x (λ xs. most_bytes < length xs) is (c.in-Err.ensures.too_large (ap Err same))))

pub returns-in-Ok-clause-causes : goal.returns-in-Ok-clause-causes
returns-in-Ok-clause-causes g c = file_causes (g.S.Sources.has_failed c.read_file.new.files) c.answer_task.result c.answer_task.ensures.fault
