use Rattle.std.proofs.Common.{◌≡◌, ◌++◌, drop}
use Rattle.imap_commands.specs.StoreCommand.{refused_messages}
use Rattle.imap_commands.proofs.store_command.refused_messages.Given as goal

abbrev pub invariant-loop-number : goal.invariant-loop-number
invariant-loop-number l =
    l.refused.items ++ refused_messages l.before l.view.items l.since (drop l.number-index l.numbers) ≡ refused_messages l.before l.view.items l.since l.numbers
