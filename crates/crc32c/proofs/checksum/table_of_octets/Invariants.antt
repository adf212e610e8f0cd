use Rattle.std.proofs.Common.{◌≡◌, ℕ, ◌<◌, get_or, length}
use Rattle.crc32c.specs.Checksum.{register_after_bits}
use Rattle.crc32c.proofs.checksum.table_of_octets.Given as goal

abbrev pub invariant-loop-octet : goal.invariant-loop-octet
invariant-loop-octet l = (length l.table ≡ 256) × ((k : ℕ) → k < l.octet → get_or l.table k 0 ≡ register_after_bits 8 k)
