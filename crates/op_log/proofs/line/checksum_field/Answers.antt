use Rattle.std.proofs.Common.{ℕ, [], ◌∷◌, ◌++◌, ◌∙◌, ap}
use Rattle.op_log.specs.Lines.{hex_word, checksum_field}
use Rattle.op_log.proofs.line.checksum_field.Goals as goal

pub returns : goal.returns
unfolding checksum_field
returns c =
    (λ i.
    c.hex_digit.ensures i ∷ c.hex_digit-2.ensures i ∷ c.hex_digit-3.ensures i ∷ c.hex_digit-4.ensures i
    ∷ c.hex_digit-5.ensures i ∷ c.hex_digit-6.ensures i ∷ c.hex_digit-7.ensures i ∷ c.hex_digit-8.ensures i ∷ 32 ∷ [])
    ∙ ap (λ (n : ℕ). hex_word n ++ 32 ∷ []) c.checksum-sum.ensures
