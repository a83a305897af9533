use Rattle.std.proofs.Common.{Some}
use Rattle.dds_findings.specs.Answers.{names_of}
use Rattle.dds_options.specs.declared.style.Style.TheVariants.{Text}
use Rattle.dds_tool.proofs.Ending.{memory_fault, pair_fault, run_fault, untold}
use Rattle.dds_tool.proofs.commands.find_pair_outcome.Goals as goal

pub returns-in-Check-clause-comes : goal.returns-in-Check-clause-comes
returns-in-Check-clause-comes g c = λ deployment second. rw c.in-Check.is (c.check_files.ensures.comes (names_of deployment (Some second)) _)

pub returns-in-Check-clause-told : goal.returns-in-Check-clause-told
returns-in-Check-clause-told g c = rw c.in-Check.is c.check_files.ensures.told

pub returns-in-Check-clause-fault : goal.returns-in-Check-clause-fault
returns-in-Check-clause-fault g c = pair_fault c.args.task c.check_files.result c.check_files.ensures.fault

pub returns-in-Run-clause-comes : goal.returns-in-Run-clause-comes
returns-in-Run-clause-comes g c = λ deployment second. rw c.in-Run.is (c.run_files.ensures.comes (names_of deployment (Some second)) _)

pub returns-in-Run-clause-told : goal.returns-in-Run-clause-told
returns-in-Run-clause-told g c = rw c.in-Run.is (untold c.run_files.result)

pub returns-in-Run-clause-fault : goal.returns-in-Run-clause-fault
returns-in-Run-clause-fault g c = run_fault c.args.task c.run_files.result (rw c.in-Run.is tt) c.run_files.ensures.fault

pub returns-in-Replay-clause-comes : goal.returns-in-Replay-clause-comes
returns-in-Replay-clause-comes g c = λ deployment second. rw c.in-Replay.is (c.replay_files.ensures.comes (names_of deployment (Some second)) _)

pub returns-in-Replay-clause-told : goal.returns-in-Replay-clause-told
returns-in-Replay-clause-told g c = rw c.in-Replay.is (untold c.replay_files.result)

pub returns-in-Replay-clause-fault : goal.returns-in-Replay-clause-fault
returns-in-Replay-clause-fault g c = pair_fault c.args.task c.replay_files.result c.replay_files.ensures.fault

pub returns-in-Conform-clause-comes : goal.returns-in-Conform-clause-comes
returns-in-Conform-clause-comes g c = λ deployment second. rw c.in-Conform.is (c.conform_trace.ensures.comes (names_of deployment (Some second)) _)

pub returns-in-Conform-clause-told : goal.returns-in-Conform-clause-told
returns-in-Conform-clause-told g c = rw c.in-Conform.is (untold c.conform_trace.result)

pub returns-in-Conform-clause-fault : goal.returns-in-Conform-clause-fault
returns-in-Conform-clause-fault g c = pair_fault c.args.task c.conform_trace.result c.conform_trace.ensures.fault

pub returns-in-Draw-clause-comes : goal.returns-in-Draw-clause-comes
returns-in-Draw-clause-comes g c = λ deployment second. rw c.in-Draw.is (c.draw_deployment.ensures.comes (names_of deployment (Some second)) Text)

pub returns-in-Draw-clause-told : goal.returns-in-Draw-clause-told
returns-in-Draw-clause-told g c = rw c.in-Draw.is (untold c.draw_deployment.result)

pub returns-in-Draw-clause-fault : goal.returns-in-Draw-clause-fault
returns-in-Draw-clause-fault g c = pair_fault c.args.task c.draw_deployment.result c.draw_deployment.ensures.fault

pub returns-in-Lint-clause-comes : goal.returns-in-Lint-clause-comes
returns-in-Lint-clause-comes g c = λ deployment second. rw c.in-Lint.is (c.lint_files.ensures.comes (names_of deployment (Some second)) _)

pub returns-in-Lint-clause-told : goal.returns-in-Lint-clause-told
returns-in-Lint-clause-told g c = rw c.in-Lint.is (untold c.lint_files.result)

pub returns-in-Lint-clause-fault : goal.returns-in-Lint-clause-fault
returns-in-Lint-clause-fault g c = pair_fault c.args.task c.lint_files.result (memory_fault c.lint_files.result c.lint_files.ensures.memory)
