use Rattle.format_tests.proofs.tests.leaves.digests.Given as goal

abbrev pub ghosts-check_digest : goal.ghosts-check_digest
ghosts-check_digest g a = record { name = a.blank.name; parts = a.blank.parts }
