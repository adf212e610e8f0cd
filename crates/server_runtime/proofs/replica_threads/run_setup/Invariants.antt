use Rattle.server_runtime.proofs.replica_threads.run_setup.Given as goal

abbrev pub ghosts-run_replica : goal.ghosts-run_replica
ghosts-run_replica g a = record { name = a.blank.name; parts = a.blank.parts }
