use Rattle.std.proofs.Common.{◌≡◌, ◌++◌, drop}
use Rattle.imap_commands.specs.ExpungeCommand.{expunges_at}
use Rattle.imap_commands.proofs.expunge_command.expunges_at.Given as goal

abbrev pub invariant-loop-number : goal.invariant-loop-number
invariant-loop-number l =
    l.kinds.items ++ expunges_at l.mailbox.name l.mailbox.rows l.mailbox.view (drop l.number-index l.numbers) ≡ expunges_at l.mailbox.name l.mailbox.rows l.mailbox.view l.numbers
