use Rattle.std.proofs.Common.{◌≡◌, drop}
use Rattle.imap_print.specs.Reading.{after}
use Rattle.imap_print.proofs.scanner.skip.Given as goal

abbrev pub invariant-loop-octet : goal.invariant-loop-octet
invariant-loop-octet l = after (drop l.octet-index l.prefix) l.rest ≡ after l.prefix l.bytes
