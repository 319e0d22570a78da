use Rattle.live_tests.proofs.tests.deletions.deletes_from_few.Given as goal

abbrev pub ghosts-check_all : goal.ghosts-check_all
ghosts-check_all g a = record { name = a.blank.name; parts = a.blank.parts }
