use Rattle.std.proofs.Common.{◌≡◌, ◌++◌, drop}
use Rattle.imap_commands.specs.CopyCommand.{appends_of}
use Rattle.imap_commands.proofs.copy_command.push_appends.Given as goal

abbrev pub invariant-loop-number : goal.invariant-loop-number
invariant-loop-number l =
    l.kinds.items ++ appends_of l.destination l.mailbox.rows l.mailbox.view (drop l.number-index l.numbers) ≡ l.fn.kinds.items ++ appends_of l.destination l.mailbox.rows l.mailbox.view l.numbers
