use Rattle.ticket_tests.proofs.tests.forged.by_all_outputs.Given as goal

abbrev pub ghosts-check_rows : goal.ghosts-check_rows
ghosts-check_rows g a = record { name = a.blank.name; parts = a.blank.parts }
