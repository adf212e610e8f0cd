use Rattle.std.proofs.Common.{◌≡◌, drop}
use Rattle.imap_query.specs.FetchCommand.{asks_part}
use Rattle.imap_query.proofs.fetch_command.asks_part.Given as goal

abbrev pub invariant-loop-item : goal.invariant-loop-item
invariant-loop-item l = asks_part l.part (drop l.item-index l.items) ≡ asks_part l.part l.items
