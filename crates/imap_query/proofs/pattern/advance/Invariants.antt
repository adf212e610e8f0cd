use Rattle.std.proofs.Common.{◌≡◌, ◌&&◌, ◌++◌, take, drop}
use Rattle.imap_query.specs.PatternRows.{cells, is_wildcard}
use Rattle.imap_query.proofs.pattern.advance.Given as goal

abbrev pub invariant-loop-at : goal.invariant-loop-at
invariant-loop-at l =
    take l.at l.row ++ cells l.octet l.before l.made (drop l.at l.row) (drop l.at l.name)
    ≡ cells l.octet l.first (is_wildcard l.octet && l.first) l.initial.row l.name
