use Rattle.std.proofs.Common.{◌≡◌, ◌++◌, drop}
use Rattle.imap_commands.specs.CopyCommand.{expunges_of_moved}
use Rattle.imap_commands.proofs.copy_command.push_removals.Given as goal

abbrev pub invariant-loop-number : goal.invariant-loop-number
invariant-loop-number l =
    l.kinds.items ++ expunges_of_moved l.mailbox.name l.mailbox.rows l.mailbox.view (drop l.number-index l.numbers) ≡ l.fn.kinds.items ++ expunges_of_moved l.mailbox.name l.mailbox.rows l.mailbox.view l.numbers
