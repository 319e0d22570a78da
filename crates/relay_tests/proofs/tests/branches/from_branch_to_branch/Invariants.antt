use Rattle.relay_tests.proofs.tests.branches.from_branch_to_branch.Given as goal

abbrev pub ghosts-check : goal.ghosts-check
ghosts-check g a = record { name = a.blank.name; parts = a.blank.parts }
