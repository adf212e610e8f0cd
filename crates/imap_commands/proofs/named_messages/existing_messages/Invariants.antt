use Rattle.std.proofs.Common.{◌≡◌, ◌++◌, drop}
use Rattle.imap_commands.specs.MessageNames.{existing_messages}
use Rattle.imap_commands.proofs.named_messages.existing_messages.Given as goal

abbrev pub invariant-loop-number : goal.invariant-loop-number
invariant-loop-number l =
    l.existing.items ++ existing_messages l.rows l.view.items (drop l.number-index l.numbers) ≡ existing_messages l.rows l.view.items l.numbers
