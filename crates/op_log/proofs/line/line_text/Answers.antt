use Rattle.std.proofs.Common.{List, ℕ, true, false, ◌∙◌, ap, sym}
use Rattle.std.specs.Str.{bytes_eq}
use Rattle.op_log.proofs.LineLemmas.{line_text_of_parts, line_text_short}
use Rattle.op_log.proofs.line.line_text.Goals as goal

pub returns-then-line-lt-CHECKSUM_OCTETS : goal.returns-then-line-lt-CHECKSUM_OCTETS
returns-then-line-lt-CHECKSUM_OCTETS c = sym (line_text_short c.args.line.now c.if-line-lt-CHECKSUM_OCTETS.true)

pub returns-then-are_same_octets : goal.returns-then-are_same_octets
returns-then-are_same_octets c =
    let seal = c.split_at.result.0.now in
    line_text_of_parts c.args.line.now seal c.split_at.result.1.now true c.split_at.ensures.front c.split_at.ensures.back
    (c.if-are_same_octets.ensures ∙ ap (λ (xs : List ℕ). bytes_eq seal xs) c.checksum_field.ensures)

pub returns-else-are_same_octets : goal.returns-else-are_same_octets
returns-else-are_same_octets c =
    let seal = c.split_at.result.0.now in
    line_text_of_parts c.args.line.now seal c.split_at.result.1.now false c.split_at.ensures.front c.split_at.ensures.back
    (c.if-are_same_octets.ensures ∙ ap (λ (xs : List ℕ). bytes_eq seal xs) c.checksum_field.ensures)
