use Rattle.link_tests.proofs.joining.make_joined_books.Given as goal

abbrev pub ghosts-work_and_join : goal.ghosts-work_and_join
ghosts-work_and_join g a = record { name = a.blank.name; parts = a.blank.parts }
