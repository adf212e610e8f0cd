use Rattle.std.proofs.Common.{◌↔◌, drop, map}
use Rattle.imap_types.specs.Numbers.{AreRisingFrom}
use Rattle.imap_query.specs.Search.{number_or_uid}
use Rattle.imap_cases.proofs.queries.searches.are_rising.Given as goal

abbrev pub invariant-loop-message : goal.invariant-loop-message
invariant-loop-message l = AreRisingFrom l.low (map (number_or_uid l.by_uid) (drop l.message-index l.shown)) ↔ AreRisingFrom 1 (map (number_or_uid l.by_uid) l.shown)
