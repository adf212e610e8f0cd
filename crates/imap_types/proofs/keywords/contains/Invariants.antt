use Rattle.std.proofs.Common.{◌≡◌, drop}
use Rattle.imap_types.specs.Keywords.{has_keyword}
use Rattle.imap_types.proofs.keywords.contains.Given as goal

abbrev pub invariant-loop-word : goal.invariant-loop-word
invariant-loop-word l = has_keyword l.keyword (drop l.word-index l.words) ≡ has_keyword l.keyword l.words
