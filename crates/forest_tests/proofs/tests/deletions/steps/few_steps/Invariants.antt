use Rattle.forest_tests.proofs.tests.deletions.steps.few_steps.Given as goal

abbrev pub ghosts-check_steps : goal.ghosts-check_steps
ghosts-check_steps g a = record { name = a.blank.name; parts = a.blank.parts }
