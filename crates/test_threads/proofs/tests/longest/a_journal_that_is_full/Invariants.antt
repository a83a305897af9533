use Rattle.test_threads.proofs.tests.longest.a_journal_that_is_full.Given as goal

-- the book is named by the kit's plan and tables
abbrev pub ghosts-expect_longest : goal.ghosts-expect_longest
ghosts-expect_longest g a = record { plan = a.kit.checked.plan; tables = a.kit.tables }
