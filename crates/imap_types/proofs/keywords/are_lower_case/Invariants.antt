use Rattle.std.proofs.Common.{◌≡◌, drop}
use Rattle.std.specs.List.{list_all}
use Rattle.imap_types.specs.Keywords.{is_lower_case}
use Rattle.imap_types.proofs.keywords.are_lower_case.Given as goal

abbrev pub invariant-loop-word : goal.invariant-loop-word
invariant-loop-word l = list_all is_lower_case (drop l.word-index l.words) ≡ list_all is_lower_case l.words
