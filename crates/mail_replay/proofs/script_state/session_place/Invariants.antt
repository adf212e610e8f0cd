use Rattle.std.proofs.Common.{◌≡◌, drop}
use Rattle.mail_replay.specs.ScriptState.{session_from, session_place}
use Rattle.mail_replay.proofs.script_state.session_place.Given as goal

abbrev pub invariant-loop-place : goal.invariant-loop-place
invariant-loop-place l = session_place l.sessions l.name ≡ session_from l.place (drop l.place l.sessions) l.name
