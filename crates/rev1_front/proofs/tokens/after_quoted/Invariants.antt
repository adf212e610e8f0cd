use Rattle.std.proofs.Common.{◌≡◌, drop, false}
use Rattle.imap_grammar.specs.Reading.{quoted_at}
use Rattle.rev1_front.proofs.TokenLemmas.{rest_of}
use Rattle.rev1_front.proofs.tokens.after_quoted.Given as goal

abbrev pub invariant-loop-place : goal.invariant-loop-place
invariant-loop-place l = rest_of (quoted_at l.escaped (drop l.place l.octets)) ≡ rest_of (quoted_at false l.octets)
