use Rattle.std.proofs.Common.{◌≡◌, drop}
use Rattle.mail_replay.specs.ScriptState.{replica_from, replica_place}
use Rattle.mail_replay.proofs.script_state.replica_place.Given as goal

abbrev pub invariant-loop-place : goal.invariant-loop-place
invariant-loop-place l = replica_place l.replicas l.name ≡ replica_from l.place (drop l.place l.replicas) l.name
