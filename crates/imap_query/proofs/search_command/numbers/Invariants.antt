use Rattle.std.proofs.Common.{◌≡◌, ◌+◌, ◌++◌, drop, map}
use Rattle.imap_types.specs.Numbers.{AreRisingFrom, greatest}
use Rattle.imap_query.specs.declared.search_command.Hit.{Hit}
use Rattle.imap_query.proofs.search_command.numbers.Given as goal

abbrev pub invariant-loop-hit : goal.invariant-loop-hit
invariant-loop-hit l =
    (l.numbers ++ map (λ (hit : Hit). hit.number) (drop l.hit-index l.hits) ≡ map (λ (hit : Hit). hit.number) l.hits)
    × AreRisingFrom (greatest l.numbers + 1) (map (λ (hit : Hit). hit.number) (drop l.hit-index l.hits))
