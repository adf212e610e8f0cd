use Rattle.std.proofs.Common.{◌≡◌, ℕ, ◌<◌, ◌/◌, ◌%◌, bit_xor, get_or, length, slice_index}
use Rattle.crc32c.proofs.checksum.table_after.Given as goal

abbrev pub invariant-loop-place : goal.invariant-loop-place
invariant-loop-place l =
    (length l.after ≡ 256)
    × ((k : ℕ) → k < l.place → get_or l.after k 0 ≡ bit_xor (slice_index l.octets (slice_index l.table k % 256)) (slice_index l.table k / 256))
