use Rattle.std.proofs.Common.{◌≡◌, ◌++◌, drop, map}
use Rattle.imap_types.specs.Numbers.{AreRisingFrom}
use Rattle.imap_query.specs.KeyHits.{Key, steps_of}
use Rattle.imap_query.specs.Search.{hits_of_rows, hits_in, last_shown, number_or_uid}
use Rattle.imap_query.specs.declared.search_command.Hit.{Hit}
use Rattle.imap_query.proofs.search_command.hits_in.Given as goal

abbrev pub invariant-loop-shown : goal.invariant-loop-shown
invariant-loop-shown l =
    ((key : Key) → l.steps ≡ steps_of key → l.hits.items ++ hits_of_rows l.by_uid key (last_shown l.view) l.rows (drop l.shown-index l.view) ≡ hits_in l.by_uid key l.rows l.view)
    × AreRisingFrom 1 (map (λ (hit : Hit). hit.number) l.hits.items ++ map (number_or_uid l.by_uid) (drop l.shown-index l.view))
