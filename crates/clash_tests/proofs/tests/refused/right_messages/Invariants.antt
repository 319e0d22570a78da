use Rattle.clash_tests.proofs.tests.refused.right_messages.Given as goal

abbrev pub ghosts-check_rows : goal.ghosts-check_rows
ghosts-check_rows g a = record { name = a.blank.name; parts = a.blank.parts }
