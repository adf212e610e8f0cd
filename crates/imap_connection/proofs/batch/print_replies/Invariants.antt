use Rattle.std.proofs.Common.{◌≡◌, ◌++◌, take}
use Rattle.imap_connection.specs.Batches.{answers_by}
use Rattle.imap_connection.specs.Requests.{texts}
use Rattle.imap_connection.proofs.batch.print_replies.Given as goal

abbrev pub invariant-loop-i : goal.invariant-loop-i
invariant-loop-i l = l.text.items ≡ l.initial.text.items ++ texts (answers_by l.tags (take l.i l.replies))
