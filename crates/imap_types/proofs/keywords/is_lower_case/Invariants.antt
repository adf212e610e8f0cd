use Rattle.std.proofs.Common.{◌≡◌, drop}
use Rattle.imap_types.specs.Keywords.{is_lower_case}
use Rattle.imap_types.proofs.keywords.is_lower_case.Given as goal

abbrev pub invariant-loop-octet : goal.invariant-loop-octet
invariant-loop-octet l = is_lower_case (drop l.octet-index l.word) ≡ is_lower_case l.word
