use Rattle.state_tests.proofs.tests.whole.states_of_both_versions.Given as goal

abbrev pub ghosts-check_state : goal.ghosts-check_state
ghosts-check_state g a = record { name = a.blank.name; parts = a.blank.parts }

abbrev pub ghosts-check_refused : goal.ghosts-check_refused
ghosts-check_refused g a = record { name = a.blank.name; parts = a.blank.parts }
