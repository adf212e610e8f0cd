use Rattle.std.proofs.Common.{◌≡◌, drop}
use Rattle.crc32c.specs.Checksum.{register_after}
use Rattle.crc32c.proofs.checksum.Crc32c.register_after_few.Given as goal

abbrev pub invariant-loop-octet : goal.invariant-loop-octet
invariant-loop-octet l = register_after l.register (drop l.octet-index l.octets) ≡ register_after l.initial.register l.octets
