use Rattle.command_tests.proofs.tests.outcome_of.Given as goal

abbrev pub ghosts-run_given : goal.ghosts-run_given
ghosts-run_given g a = record { name = a.blank.name; parts = a.blank.parts }
