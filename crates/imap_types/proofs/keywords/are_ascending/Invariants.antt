use Rattle.std.proofs.Common.{◌≡◌, length}
use Rattle.imap_types.specs.Keywords.{are_ascending}
use Rattle.imap_types.proofs.keywords.are_ascending.Given as goal

abbrev pub invariant-loop-rest : goal.invariant-loop-rest
invariant-loop-rest l = are_ascending l.rest ≡ are_ascending l.words

abbrev pub decreases-loop-rest : goal.decreases-loop-rest
decreases-loop-rest l = length l.rest
