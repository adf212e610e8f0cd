use Rattle.link_tests.proofs.bounded_journals.text_of_restored.Given as goal

abbrev pub ghosts-book_with_ops : goal.ghosts-book_with_ops
ghosts-book_with_ops g a = record { name = a.blank.name; parts = a.blank.parts }
