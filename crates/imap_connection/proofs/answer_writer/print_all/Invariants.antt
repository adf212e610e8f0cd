use Rattle.std.proofs.Common.{◌≡◌, ◌++◌, take}
use Rattle.imap_connection.specs.Requests.{texts}
use Rattle.imap_connection.proofs.answer_writer.print_all.Given as goal

abbrev pub invariant-loop-answer : goal.invariant-loop-answer
invariant-loop-answer l = l.text.items ≡ l.fn.text.items ++ texts (take l.answer-index l.answers)
