use Rattle.std.proofs.Common.{◌++◌, drop}
use Rattle.imap_query.specs.PatternForms.{MatchSameNames}
use Rattle.imap_query.proofs.pattern.simpler.Given as goal

abbrev pub invariant-loop-octet : goal.invariant-loop-octet
invariant-loop-octet l = MatchSameNames l.pattern (l.made.items ++ drop l.octet-index l.pattern)
