use Rattle.node_tests.proofs.tests.one_chain.Given as goal

abbrev pub ghosts-check_chain : goal.ghosts-check_chain
ghosts-check_chain g a = record { name = a.blank.name; parts = a.blank.parts }
