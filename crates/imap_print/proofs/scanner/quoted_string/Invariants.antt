use Rattle.std.proofs.Common.{◌≡◌, false, length}
use Rattle.imap_print.specs.Reading.{quoted_from, with_prefix}
use Rattle.imap_print.proofs.scanner.quoted_string.Given as goal

abbrev pub invariant-loop-rest : goal.invariant-loop-rest
invariant-loop-rest l = with_prefix l.string.items (quoted_from l.escaped l.rest) ≡ quoted_from false l.bytes

abbrev pub decreases-loop-rest : goal.decreases-loop-rest
decreases-loop-rest l = length l.rest
