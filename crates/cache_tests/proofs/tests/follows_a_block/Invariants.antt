use Rattle.cache_tests.proofs.tests.follows_a_block.Given as goal

abbrev pub ghosts-check_blocks : goal.ghosts-check_blocks
ghosts-check_blocks g a = record { name = a.blank.name; parts = a.blank.parts }
