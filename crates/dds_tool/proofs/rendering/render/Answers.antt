use Rattle.std.proofs.Common.{◌∙◌, List, ap, length, option_map, subst}
use Rattle.dds_weights.specs.Views.{certificate_view}
use Rattle.dds_apps.specs.declared.player.AppEnd.{AppEnd}
use Rattle.dds_answers.specs.Answers.{Gives}
use Rattle.dds_answers.specs.Proposals.{proposal_end}
use Rattle.dds_sizing.specs.Searches.{found_end}
use Rattle.dds_tool.specs.RunEnds.{ran}
use Rattle.dds_tool.proofs.Outcomes.{found_ends, memory_of, proposal_ends}
use Rattle.dds_tool.proofs.rendering.render.Goals as goal

pub returns-in-Checked-clause-gives : goal.returns-in-Checked-clause-gives
returns-in-Checked-clause-gives c = rw c.in-Checked.is c.report_in_style.ensures.gives

pub returns-in-Compared-clause-gives : goal.returns-in-Compared-clause-gives
returns-in-Compared-clause-gives c = rw c.in-Compared.is c.answer_comparison.ensures.gives

pub returns-in-Proposed-clause-gives : goal.returns-in-Proposed-clause-gives
returns-in-Proposed-clause-gives c = rw c.in-Proposed.is (c.proposal_in_style.ensures.gives (proposal_end c.in-Proposed.plan (option_map certificate_view c.in-Proposed.certificate)) (proposal_ends c.in-Proposed.plan c.in-Proposed.certificate) c.answer_proposal.ensures.gives)

pub returns-in-Searched-clause-gives : goal.returns-in-Searched-clause-gives
returns-in-Searched-clause-gives c = rw c.in-Searched.is (c.proposal_in_style-in-Searched.ensures.gives (found_end c.in-Searched.plan c.in-Searched.found) (found_ends c.in-Searched.plan c.in-Searched.found) c.answer_search.ensures.gives)

pub returns-in-Migrated-clause-gives : goal.returns-in-Migrated-clause-gives
returns-in-Migrated-clause-gives c = rw c.in-Migrated.is c.answer_migration.ensures.gives

pub returns-in-Refuted-clause-gives : goal.returns-in-Refuted-clause-gives
returns-in-Refuted-clause-gives c = rw c.in-Refuted.is c.answer_refutation.ensures.gives

pub returns-in-Sized-clause-gives : goal.returns-in-Sized-clause-gives
returns-in-Sized-clause-gives c = rw c.in-Sized.is c.answer_limits.ensures.gives

pub returns-in-Shown-clause-gives : goal.returns-in-Shown-clause-gives
returns-in-Shown-clause-gives c = rw c.in-Shown.is c.answer_lists.ensures.gives

pub returns-in-Drawn-clause-gives : goal.returns-in-Drawn-clause-gives
returns-in-Drawn-clause-gives c = rw c.in-Drawn.is c.answer_drawing.ensures.gives

pub returns-in-Linted-clause-gives : goal.returns-in-Linted-clause-gives
returns-in-Linted-clause-gives c = rw c.in-Linted.is c.answer_lint.ensures.gives

pub returns-in-Ran-clause-gives : goal.returns-in-Ran-clause-gives
returns-in-Ran-clause-gives c =
    rw c.in-Ran.is
    (subst (λ (ends : List AppEnd). Gives c.answer_run.result (ran c.in-Ran.good c.in-Ran.detail c.args.style c.in-Ran.plan c.in-Ran.journal ends)) c.deref.ensures.value
    c.answer_run.ensures.gives)

pub returns-in-Replayed-clause-gives : goal.returns-in-Replayed-clause-gives
returns-in-Replayed-clause-gives c = rw c.in-Replayed.is c.answer_replay.ensures.gives

pub returns-in-Conformed-clause-gives : goal.returns-in-Conformed-clause-gives
returns-in-Conformed-clause-gives c = rw c.in-Conformed.is c.answer_conformance.ensures.gives

pub returns-in-Proposed-clause-memory : goal.returns-in-Proposed-clause-memory
returns-in-Proposed-clause-memory c = memory_of c.answer_proposal.result c.proposal_in_style.result c.answer_proposal.ensures.memory c.proposal_in_style.ensures.fault

pub returns-in-Searched-clause-memory : goal.returns-in-Searched-clause-memory
returns-in-Searched-clause-memory c = memory_of c.answer_search.result c.proposal_in_style-in-Searched.result c.answer_search.ensures.memory c.proposal_in_style-in-Searched.ensures.fault

pub answer_run-requires-clause-journal : goal.answer_run-requires-clause-journal
answer_run-requires-clause-journal c = (rw c.in-Ran.is at c.requires).0

pub answer_run-requires-clause-ends : goal.answer_run-requires-clause-ends
answer_run-requires-clause-ends c = ap length c.deref.ensures.value ∙ (rw c.in-Ran.is at c.requires).1
