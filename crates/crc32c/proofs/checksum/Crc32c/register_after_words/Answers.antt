use Rattle.std.proofs.Common.{◌∙◌, bit_xor}
use Rattle.crc32c.proofs.ChecksumLemmas.{words_apart}
use Rattle.crc32c.proofs.checksum.Crc32c.register_after_words.Goals as goal

pub returns : goal.returns
returns c = (λ i. bit_xor (c.register_after_first.ensures i) (c.register_after_second.ensures i)) ∙ words_apart c.args.first c.args.second
