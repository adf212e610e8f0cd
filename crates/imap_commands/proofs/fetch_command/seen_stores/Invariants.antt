use Rattle.std.proofs.Common.{◌≡◌, ◌++◌, drop}
use Rattle.imap_commands.specs.FetchCommand.{seen_stores}
use Rattle.imap_commands.proofs.fetch_command.seen_stores.Given as goal

abbrev pub invariant-loop-number : goal.invariant-loop-number
invariant-loop-number l =
    l.kinds.items ++ seen_stores l.mailbox l.request (drop l.number-index l.numbers) ≡ seen_stores l.mailbox l.request l.numbers
