use Rattle.pc_threads.proofs.runner.run_agents_by.Given as goal

abbrev pub ghosts-run_with-A-Ledger : goal.ghosts-run_with-A-Ledger
ghosts-run_with-A-Ledger g a = record { name = a.blanks.cpus.name; parts = a.blanks.cpus.parts }

abbrev pub ghosts-run_with-B-Ledger : goal.ghosts-run_with-B-Ledger
ghosts-run_with-B-Ledger g a = record { name = a.blanks.created.name; parts = a.blanks.created.parts }

abbrev pub ghosts-run_with-C-Ledger : goal.ghosts-run_with-C-Ledger
ghosts-run_with-C-Ledger g a = record { name = a.blanks.told.name; parts = a.blanks.told.parts }

abbrev pub ghosts-run_with-D-Ledger : goal.ghosts-run_with-D-Ledger
ghosts-run_with-D-Ledger g a = record { name = a.blanks.ran.name; parts = a.blanks.ran.parts }

abbrev pub ghosts-run_with-E-Ledger : goal.ghosts-run_with-E-Ledger
ghosts-run_with-E-Ledger g a = record { name = a.blanks.left.name; parts = a.blanks.left.parts }

abbrev pub ghosts-run_with-F-Ledger : goal.ghosts-run_with-F-Ledger
ghosts-run_with-F-Ledger g a = record { name = a.blanks.died.name; parts = a.blanks.died.parts }

abbrev pub ghosts-run_with-H-Ledger : goal.ghosts-run_with-H-Ledger
ghosts-run_with-H-Ledger g a = record { name = a.blanks.committed.name; parts = a.blanks.committed.parts }

abbrev pub ghosts-run_with-I-Ledger : goal.ghosts-run_with-I-Ledger
ghosts-run_with-I-Ledger g a = record { name = a.blanks.taken_over.name; parts = a.blanks.taken_over.parts }

abbrev pub ghosts-run_with-J-Ledger : goal.ghosts-run_with-J-Ledger
ghosts-run_with-J-Ledger g a = record { name = a.blanks.consumed.name; parts = a.blanks.consumed.parts }
