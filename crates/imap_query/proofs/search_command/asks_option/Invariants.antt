use Rattle.std.proofs.Common.{◌≡◌, drop}
use Rattle.imap_query.specs.Search.{asks_option}
use Rattle.imap_query.proofs.search_command.asks_option.Given as goal

abbrev pub invariant-loop-other : goal.invariant-loop-other
invariant-loop-other l = asks_option l.option (drop l.other-index l.options) ≡ asks_option l.option l.options
