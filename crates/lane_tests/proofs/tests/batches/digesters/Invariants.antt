use Rattle.lane_tests.proofs.tests.batches.digesters.Given as goal

abbrev pub ghosts-check_digester : goal.ghosts-check_digester
ghosts-check_digester g a = record { name = a.blank.name; parts = a.blank.parts }

abbrev pub ghosts-check_digester-2 : goal.ghosts-check_digester-2
ghosts-check_digester-2 g a = record { name = a.blank.name; parts = a.blank.parts }
