use Rattle.dds_book.proofs.halves.Holder.advance.Given as goal

abbrev pub ghosts-change : goal.ghosts-change
ghosts-change g a = record { front = a.front.now }
