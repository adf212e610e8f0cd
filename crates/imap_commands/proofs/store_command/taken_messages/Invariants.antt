use Rattle.std.proofs.Common.{◌≡◌, ◌++◌, drop}
use Rattle.imap_commands.specs.StoreCommand.{taken_messages}
use Rattle.imap_commands.proofs.store_command.taken_messages.Given as goal

abbrev pub invariant-loop-number : goal.invariant-loop-number
invariant-loop-number l =
    l.taken.items ++ taken_messages l.before l.view.items l.since (drop l.number-index l.numbers) ≡ taken_messages l.before l.view.items l.since l.numbers
