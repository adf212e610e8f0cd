use Rattle.std.proofs.Common.{◌≡◌, ◌++◌, drop}
use Rattle.imap_commands.specs.FetchCommand.{viewed_messages_at}
use Rattle.imap_commands.proofs.fetch_command.viewed_messages_at.Given as goal

abbrev pub invariant-loop-number : goal.invariant-loop-number
invariant-loop-number l =
    l.shown.items ++ viewed_messages_at l.view.items (drop l.number-index l.numbers) ≡ viewed_messages_at l.view.items l.numbers
