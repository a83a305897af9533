use Rattle.std.proofs.Common.{None}
use Rattle.dds_findings.specs.Answers.{names_of}
use Rattle.dds_options.specs.declared.style.Style.TheVariants.{Text}
use Rattle.dds_tool.proofs.Ending.{memory_fault}
use Rattle.dds_tool.proofs.commands.find_outcome.Goals as goal

pub returns-in-Match-clause-comes : goal.returns-in-Match-clause-comes
returns-in-Match-clause-comes g c = λ name. rw c.in-Match.is (c.compare_endpoints.ensures.comes (names_of name None) _)

pub returns-in-Propose-clause-comes : goal.returns-in-Propose-clause-comes
returns-in-Propose-clause-comes g c = λ name. rw c.in-Propose.is (c.propose_certificate.ensures.comes (names_of name None) _)

pub returns-in-ProposeThoroughly-clause-comes : goal.returns-in-ProposeThoroughly-clause-comes
returns-in-ProposeThoroughly-clause-comes g c = λ name. rw c.in-ProposeThoroughly.is (c.search_certificate.ensures.comes (names_of name None) _)

pub returns-in-Migrate-clause-comes : goal.returns-in-Migrate-clause-comes
returns-in-Migrate-clause-comes g c = λ name. rw c.in-Migrate.is (c.migrate_deployment.ensures.comes (names_of name None) Text)

pub returns-in-Refute-clause-comes : goal.returns-in-Refute-clause-comes
returns-in-Refute-clause-comes g c = λ name. rw c.in-Refute.is (c.refute_deployment.ensures.comes (names_of name None) _)

pub returns-in-Limits-clause-comes : goal.returns-in-Limits-clause-comes
returns-in-Limits-clause-comes g c = λ name. rw c.in-Limits.is (c.size_limits.ensures.comes (names_of name None) _)

pub returns-in-Show-clause-comes : goal.returns-in-Show-clause-comes
returns-in-Show-clause-comes g c = λ name. rw c.in-Show.is (c.show_deployment.ensures.comes (names_of name None) Text)

pub returns-in-Draw-clause-comes : goal.returns-in-Draw-clause-comes
returns-in-Draw-clause-comes g c = λ name. rw c.in-Draw.is (c.draw_deployment.ensures.comes (names_of name None) Text)

pub returns-in-Lint-clause-comes : goal.returns-in-Lint-clause-comes
returns-in-Lint-clause-comes g c = λ name. rw c.in-Lint.is (c.lint_files.ensures.comes (names_of name None) _)

pub returns-in-Lint-clause-fault : goal.returns-in-Lint-clause-fault
returns-in-Lint-clause-fault g c = memory_fault c.lint_files.result c.lint_files.ensures.memory
