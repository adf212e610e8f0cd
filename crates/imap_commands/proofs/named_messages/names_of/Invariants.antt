use Rattle.std.proofs.Common.{◌≡◌, ◌++◌, drop}
use Rattle.imap_commands.specs.MessageNames.{names_of}
use Rattle.imap_commands.proofs.named_messages.names_of.Given as goal

abbrev pub invariant-loop-number : goal.invariant-loop-number
invariant-loop-number l =
    l.names.items ++ names_of l.by_uid l.view.items (drop l.number-index l.numbers) ≡ names_of l.by_uid l.view.items l.numbers
