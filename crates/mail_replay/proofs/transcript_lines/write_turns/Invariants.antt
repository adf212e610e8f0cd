use Rattle.std.proofs.Common.{◌≡◌, ◌++◌, take}
use Rattle.mail_replay.specs.Transcript.{transcript}
use Rattle.mail_replay.proofs.transcript_lines.write_turns.Given as goal

abbrev pub invariant-loop-turn : goal.invariant-loop-turn
invariant-loop-turn l = l.printed.items ≡ l.fn.printed.items ++ transcript l.session (take l.turn-index l.turns)
