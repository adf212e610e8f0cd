use Rattle.std.proofs.Common.{◌≡◌, length}
use Rattle.imap_print.specs.Reading.{number_from}
use Rattle.imap_print.proofs.scanner.number.Given as goal

abbrev pub invariant-loop-rest : goal.invariant-loop-rest
invariant-loop-rest l = number_from l.value l.rest ≡ number_from 0 l.bytes

abbrev pub decreases-loop-rest : goal.decreases-loop-rest
decreases-loop-rest l = length l.rest
