use Rattle.std.proofs.Common.{◌≡◌}
use Rattle.crc32c.specs.Checksum.{register_after_bits}
use Rattle.crc32c.proofs.checksum.table_entry.Given as goal

abbrev pub invariant-loop-bit : goal.invariant-loop-bit
invariant-loop-bit l = l.register ≡ register_after_bits l.bit l.octet
