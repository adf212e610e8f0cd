use Rattle.std.proofs.Common.{◌≡◌, length, false}
use Rattle.imap_grammar.specs.Reading.{with_prefix, quoted_at}
use Rattle.imap_grammar.proofs.text.quoted_string.Given as goal

abbrev pub invariant-loop-rest : goal.invariant-loop-rest
invariant-loop-rest l = with_prefix l.value.items (quoted_at l.escaped l.rest) ≡ quoted_at false l.octets

abbrev pub decreases-loop-rest : goal.decreases-loop-rest
decreases-loop-rest l = length l.rest
