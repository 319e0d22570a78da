use Rattle.state_tests.proofs.tests.changes.bytes_changed.Given as goal

abbrev pub ghosts-check_changes : goal.ghosts-check_changes
ghosts-check_changes g a = record { name = a.blank.name; parts = a.blank.parts }
