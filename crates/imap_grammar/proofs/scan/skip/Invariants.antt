use Rattle.std.proofs.Common.{◌≡◌, drop}
use Rattle.imap_grammar.specs.Reading.{after}
use Rattle.imap_grammar.proofs.scan.skip.Given as goal

abbrev pub invariant-loop-octet : goal.invariant-loop-octet
invariant-loop-octet l = after (drop l.octet-index l.expected) l.rest ≡ after l.expected l.octets
