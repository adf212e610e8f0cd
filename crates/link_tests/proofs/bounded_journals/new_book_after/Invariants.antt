use Rattle.link_tests.proofs.bounded_journals.new_book_after.Given as goal

abbrev pub ghosts-book_after : goal.ghosts-book_after
ghosts-book_after g a = record { name = a.blank.name; parts = a.blank.parts }
