use Rattle.std.proofs.Common.{◌≡◌, length, drop}
use Rattle.imap_query.specs.PatternRows.{answer_after}
use Rattle.imap_query.proofs.pattern.is_match.Given as goal

abbrev pub invariant-loop-octet : goal.invariant-loop-octet
invariant-loop-octet l = record {
  lengths : length l.row.items ≡ length l.name;
  answer : answer_after (drop l.octet-index l.pattern) l.first l.row.items l.name ≡ answer_after l.pattern l.initial.first l.initial.row.items l.name;
}
