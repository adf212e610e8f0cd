use Rattle.std.proofs.Common.{ℕ, ◌/◌, ◌%◌, ◌<◌, ◌∙◌, ap, arith, bit_xor}
use Rattle.crc32c.specs.Checksum.{register_after_bits}
use Rattle.crc32c.proofs.ChecksumLemmas.{table_entry_xor}
use Rattle.crc32c.proofs.checksum.Crc32c.register_after_octet.Goals as goal

pub returns : goal.returns
returns c =
    let mixed = bit_xor c.args.register c.from.result in
    let low : mixed % 256 < 256 = omega arith in
    ap (λ (n : ℕ). bit_xor n (mixed / 256)) (c.args.self.now.is_octet (mixed % 256) low)
    ∙ table_entry_xor mixed
    ∙ ap (λ (n : ℕ). register_after_bits 8 (bit_xor c.args.register n)) c.from.ensures
