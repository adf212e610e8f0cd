use Rattle.server_tests.proofs.scene.play.Given as goal

abbrev pub ghosts-played-L-Ledger : goal.ghosts-played-L-Ledger
ghosts-played-L-Ledger g a = record { name = a.blanks.0.name; parts = a.blanks.0.parts }

abbrev pub ghosts-played-M-Ledger : goal.ghosts-played-M-Ledger
ghosts-played-M-Ledger g a = record { name = a.blanks.1.name; parts = a.blanks.1.parts }
