use Rattle.ticket_tests.proofs.tests.judged.first_reasons.Given as goal

abbrev pub ghosts-check_rows : goal.ghosts-check_rows
ghosts-check_rows g a = record { name = a.blank.name; parts = a.blank.parts }
