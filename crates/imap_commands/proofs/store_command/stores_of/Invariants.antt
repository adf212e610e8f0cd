use Rattle.std.proofs.Common.{◌≡◌, ◌++◌, drop}
use Rattle.imap_commands.specs.StoreCommand.{stores_of}
use Rattle.imap_commands.proofs.store_command.stores_of.Given as goal

abbrev pub invariant-loop-number : goal.invariant-loop-number
invariant-loop-number l =
    l.kinds.items ++ stores_of l.mailbox l.request (drop l.number-index l.numbers) ≡ stores_of l.mailbox l.request l.numbers
