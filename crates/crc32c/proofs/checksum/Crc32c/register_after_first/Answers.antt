use Rattle.std.proofs.Common.{ℕ, ◌/◌, ◌%◌, ◌<◌, ◌∙◌, arith, bit_xor}
use Rattle.crc32c.proofs.ChecksumLemmas.{first_word_by_tables}
use Rattle.crc32c.proofs.checksum.Crc32c.register_after_first.Goals as goal

below : (n : ℕ) → n % 256 < 256
below n = omega arith

pub returns : goal.returns
returns c =
    let w = c.args.word in
    let fits = c.ranges.word.fits in
    let highest : w / 16777216 < 256 = omega arith in
    let tables = c.args.self.now in
    (λ i. bit_xor (bit_xor (bit_xor (tables.is_seven (w % 256) (below w) i) (tables.is_six (w / 256 % 256) (below (w / 256)) i)) (tables.is_five (w / 65536 % 256) (below (w / 65536)) i)) (tables.is_four (w / 16777216) highest i))
    ∙ first_word_by_tables w
