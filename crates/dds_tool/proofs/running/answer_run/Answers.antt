use Rattle.std.proofs.Common.{◌≡◌, Bool, IfOk, string_bytes, subst}
use Rattle.dds_recap.specs.Ends.{all_good}
use Rattle.dds_json.proofs.Ends.{line_gives}
use Rattle.dds_tool.specs.RunDocument.{told_run}
use Rattle.dds_tool.specs.Running.{app_names, because_of}
use Rattle.dds_tool.proofs.running.answer_run.Goals as goal

pub returns-clause-gives : goal.returns-clause-gives
returns-clause-gives c =
    let d = c.args.plan in
    let journal = c.args.journal.now in
    let ends = c.args.ends.now in
    let good = all_good c.args.good ends in
    let because = because_of c.args.detail d journal ends in
    let text =
    subst (λ (b : Bool). IfOk c.run_in_style-text.result (λ t. string_bytes t ≡ told_run c.args.style b because (app_names d) journal ends)) c.all_good-is_yes.ensures c.run_in_style-text.ensures in
    line_gives c.run_in_style-text.result c.answer_with.result (told_run c.args.style good because (app_names d) journal ends) good c.all_good-is_yes.result c.all_good-is_yes.ensures
    c.answer_with.ensures.answer c.answer_with.ensures.text c.answer_with.ensures.memory text
