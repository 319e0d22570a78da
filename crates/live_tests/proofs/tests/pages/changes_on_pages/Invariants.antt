use Rattle.live_tests.proofs.tests.pages.changes_on_pages.Given as goal

abbrev pub ghosts-check_changes : goal.ghosts-check_changes
ghosts-check_changes g a = record { name = a.blank.name; parts = a.blank.parts }
