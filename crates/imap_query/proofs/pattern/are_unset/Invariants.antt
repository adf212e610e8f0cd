use Rattle.std.proofs.Common.{◌≡◌, drop, not}
use Rattle.std.specs.List.{list_all}
use Rattle.imap_query.proofs.pattern.are_unset.Given as goal

abbrev pub invariant-loop-here : goal.invariant-loop-here
invariant-loop-here l = list_all not (drop l.here-index l.row) ≡ list_all not l.row
