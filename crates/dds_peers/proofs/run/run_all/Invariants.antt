use Rattle.dds_peers.proofs.run.run_all.Given as goal

abbrev pub ghosts-perform : goal.ghosts-perform
ghosts-perform g a = record { plan = a.kit.checked.plan; tables = a.kit.tables }
