use Rattle.relay_tests.proofs.tests.rounds.twice_and_reversed.Given as goal

abbrev pub ghosts-check : goal.ghosts-check
ghosts-check g a = record { name = a.blank.name; parts = a.blank.parts }
