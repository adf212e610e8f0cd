use Rattle.std.proofs.Common.{◌≡◌, ◌++◌, drop, map}
use Rattle.imap_types.specs.Numbers.{AreRisingFrom}
use Rattle.imap_query.specs.Heads.{flag_key}
use Rattle.imap_query.specs.Search.{hits_of_rows, hits_in, last_shown, number_or_uid}
use Rattle.imap_query.specs.declared.search_command.Hit.{Hit}
use Rattle.imap_query.proofs.heads.flagged_hits.Given as goal

abbrev pub invariant-loop-shown : goal.invariant-loop-shown
invariant-loop-shown l =
    (l.hits.items ++ hits_of_rows l.by_uid (flag_key l.test) (last_shown l.view) l.rows (drop l.shown-index l.view) ≡ hits_in l.by_uid (flag_key l.test) l.rows l.view)
    × AreRisingFrom 1 (map (λ (hit : Hit). hit.number) l.hits.items ++ map (number_or_uid l.by_uid) (drop l.shown-index l.view))
