use Rattle.std.proofs.Common.{◌≡◌, ◌++◌, take}
use Rattle.imap_connection.specs.Conversation.{turns_of_answers}
use Rattle.imap_connection.proofs.turn_writer.send_all.Given as goal

abbrev pub invariant-loop-answer : goal.invariant-loop-answer
invariant-loop-answer l = l.turns.items ≡ l.fn.turns.items ++ turns_of_answers (take l.answer-index l.answers)
