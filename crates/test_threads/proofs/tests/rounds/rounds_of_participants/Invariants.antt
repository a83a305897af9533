use Rattle.test_threads.proofs.tests.rounds.rounds_of_participants.Given as goal

-- the book is named by the kit's plan and tables
abbrev pub ghosts-expect_state : goal.ghosts-expect_state
ghosts-expect_state g a = record { plan = a.kit.checked.plan; tables = a.kit.tables }
