use Rattle.std.proofs.Common.{◌≡◌, drop}
use Rattle.session_view.specs.Replay.{after_answers, after_silent}
use Rattle.session_view.proofs.reply_replay.replay_all.Given as goal

abbrev pub invariant-loop-silent : goal.invariant-loop-silent
invariant-loop-silent l = after_silent l.entries.items (drop l.silent-index l.silents) ≡ after_silent l.view.items l.silents

abbrev pub invariant-loop-answer : goal.invariant-loop-answer
invariant-loop-answer l = after_answers l.rows l.entries.items (drop l.answer-index l.answers) ≡ after_answers l.rows (after_silent l.view.items l.silents) l.answers
