use Rattle.link_tests.proofs.scene.output_of.Given as goal

abbrev pub ghosts-play_scene-L-Ledger : goal.ghosts-play_scene-L-Ledger
ghosts-play_scene-L-Ledger g a = record { name = a.blank.name; parts = a.blank.parts }

abbrev pub ghosts-play_scene-M-Ledger : goal.ghosts-play_scene-M-Ledger
ghosts-play_scene-M-Ledger g a = record { name = a.far_blank.name; parts = a.far_blank.parts }
