use Rattle.std.proofs.Common.{◌≡◌, drop, map}
use Rattle.std.specs.Prelude.{max}
use Rattle.imap_types.specs.Numbers.{greatest}
use Rattle.imap_query.specs.declared.search_command.Hit.{Hit}
use Rattle.imap_query.proofs.search_command.greatest_modseq.Given as goal

abbrev pub invariant-loop-hit : goal.invariant-loop-hit
invariant-loop-hit l = max l.greatest (greatest (map (λ (hit : Hit). hit.modseq) (drop l.hit-index l.hits))) ≡ greatest (map (λ (hit : Hit). hit.modseq) l.hits)
