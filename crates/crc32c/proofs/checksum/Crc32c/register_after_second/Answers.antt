use Rattle.std.proofs.Common.{ℕ, ◌/◌, ◌%◌, ◌<◌, ◌∙◌, arith, bit_xor}
use Rattle.crc32c.proofs.ChecksumLemmas.{second_word_by_tables}
use Rattle.crc32c.proofs.checksum.Crc32c.register_after_second.Goals as goal

below : (n : ℕ) → n % 256 < 256
below n = omega arith

pub returns : goal.returns
returns c =
    let w = c.args.word in
    let fits = c.ranges.word.fits in
    let highest : w / 16777216 < 256 = omega arith in
    let tables = c.args.self.now in
    (λ i. bit_xor (bit_xor (bit_xor (tables.is_three (w % 256) (below w) i) (tables.is_two (w / 256 % 256) (below (w / 256)) i)) (tables.is_one (w / 65536 % 256) (below (w / 65536)) i)) (tables.is_octet (w / 16777216) highest i))
    ∙ second_word_by_tables w
