use Rattle.live_tests.proofs.tests.many.changes_a_million.Given as goal

abbrev pub ghosts-check_many : goal.ghosts-check_many
ghosts-check_many g a = record { name = a.blank.name; parts = a.blank.parts }
