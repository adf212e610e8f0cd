use Rattle.std.proofs.Common.{◌≡◌, ◌++◌, take, drop, map}
use Rattle.mail_replay.specs.Restarts.{session_after_restart}
use Rattle.mail_replay.proofs.script_restart.end_sessions.Given as goal

abbrev pub invariant-loop-session : goal.invariant-loop-session
invariant-loop-session l = l.sessions ≡ map (session_after_restart l.fn.name) (take l.session-index l.fn.sessions) ++ drop l.session-index l.fn.sessions
