use Rattle.state_tests.proofs.tests.whole.states_whole.Given as goal

abbrev pub ghosts-check_state : goal.ghosts-check_state
ghosts-check_state g a = record { name = a.blank.name; parts = a.blank.parts }
