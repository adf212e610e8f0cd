use Rattle.std.proofs.Common.{◌≡◌, length}
use Rattle.crc32c.specs.Checksum.{register_after}
use Rattle.crc32c.proofs.checksum.Crc32c.checksum.Given as goal

abbrev pub invariant-loop-rest : goal.invariant-loop-rest
invariant-loop-rest l = register_after l.register l.rest ≡ register_after 0xFFFFFFFF l.octets

abbrev pub decreases-loop-rest : goal.decreases-loop-rest
decreases-loop-rest l = length l.rest
