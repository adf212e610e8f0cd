use Rattle.std.proofs.Common.{ℕ, ◌-◌, ◌∙◌, ap, bit_xor, drop, length, take}
use Rattle.crc32c.specs.Checksum.{crc32c, register_after, register_after_bits}
use Rattle.crc32c.proofs.ChecksumLemmas.{eight_of_list}
use Rattle.crc32c.proofs.checksum.Crc32c.checksum.Goals as goal

pub loop-rest-preserved : goal.loop-rest-preserved
loop-rest-preserved c =
    let r = c.loop-rest.register in
    let octets = c.loop-rest.rest.now in
    ap (λ (n : ℕ). register_after n (take (length octets - 8) (drop 8 octets)))
    (c.register_after_words-register.ensures ∙ (λ i. register_after_bits 32 (bit_xor (register_after_bits 32 (bit_xor r (c.word_of.ensures i))) (c.word_of-in-len8-up.ensures i))))
    ∙ eight_of_list r octets c.in-len8-up.len_at_least
    ∙ c.loop-rest.invariant

pub returns : goal.returns
unfolding crc32c
returns c = ap (λ (n : ℕ). 0xFFFFFFFF - n) (c.register_after_few.ensures ∙ c.loop-rest.invariant)
