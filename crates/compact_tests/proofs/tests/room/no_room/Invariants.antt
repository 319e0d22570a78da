use Rattle.compact_tests.proofs.tests.room.no_room.Given as goal

abbrev pub ghosts-check_room : goal.ghosts-check_room
ghosts-check_room g a = record { name = a.blank.name; parts = a.blank.parts }
