use Rattle.test_threads.proofs.tests.seats.a_sample_goes_from_seat_to_seat.Given as goal

-- the book is named by the kit's plan and tables
abbrev pub ghosts-expect_book : goal.ghosts-expect_book
ghosts-expect_book g a = record { plan = a.kit.checked.plan; tables = a.kit.tables }
