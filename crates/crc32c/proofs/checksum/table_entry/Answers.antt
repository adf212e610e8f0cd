use Rattle.std.proofs.Common.{◌∙◌, add-one, ap, refl}
use Rattle.crc32c.specs.Checksum.{register_after_bit, register_after_bits}
use Rattle.crc32c.proofs.checksum.table_entry.Goals as goal

pub loop-bit-init : goal.loop-bit-init
unfolding register_after_bits
loop-bit-init c = refl

pub loop-bit-preserved : goal.loop-bit-preserved
unfolding register_after_bits
loop-bit-preserved c = rw add-one (c.register_after_bit-register.ensures ∙ ap register_after_bit c.loop-bit.invariant)
