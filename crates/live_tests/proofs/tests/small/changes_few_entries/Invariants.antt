use Rattle.live_tests.proofs.tests.small.changes_few_entries.Given as goal

abbrev pub ghosts-check_all : goal.ghosts-check_all
ghosts-check_all g a = record { name = a.blank.name; parts = a.blank.parts }
