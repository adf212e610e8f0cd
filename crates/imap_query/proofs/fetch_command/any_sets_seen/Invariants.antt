use Rattle.std.proofs.Common.{◌≡◌, drop}
use Rattle.std.specs.List.{list_any}
use Rattle.imap_query.specs.FetchCommand.{sets_seen}
use Rattle.imap_query.proofs.fetch_command.any_sets_seen.Given as goal

abbrev pub invariant-loop-item : goal.invariant-loop-item
invariant-loop-item l = list_any sets_seen (drop l.item-index l.items) ≡ list_any sets_seen l.items
