use Rattle.std.proofs.Common.{◌≡◌, length}
use Rattle.imap_types.specs.Escape.{unescape, with_octets_before}
use Rattle.imap_types.proofs.escape.unescape.Given as goal

abbrev pub invariant-loop-rest : goal.invariant-loop-rest
invariant-loop-rest l = with_octets_before l.octets.items (unescape l.escape l.rest) ≡ unescape l.escape l.text

abbrev pub decreases-loop-rest : goal.decreases-loop-rest
decreases-loop-rest l = length l.rest
