use Rattle.std.proofs.Common.{◌∷◌, ◌++◌, sym, subst}
use Rattle.link_wire.specs.declared.line_word.LineWord.{LineWord}
use Rattle.link_wire.specs.LineReading.{word_text}
use Rattle.link_wire.proofs.LineReadingLemmas.{Reads, reads_bye, reads_have, reads_want}
use Rattle.link_wire.proofs.line_reader.read_fields.Goals as goal

pub returns-in-Have : goal.returns-in-Have
returns-in-Have c =
    subst (λ (word : LineWord). Reads (word_text word ++ 32 ∷ c.args.fields.now) c.read_have.result) (sym c.in-Have.is)
    (reads_have c.args.fields.now c.read_have.result c.read_have.ensures)

pub returns-in-Want : goal.returns-in-Want
returns-in-Want c =
    subst (λ (word : LineWord). Reads (word_text word ++ 32 ∷ c.args.fields.now) c.read_want.result) (sym c.in-Want.is)
    (reads_want c.args.fields.now c.read_want.result c.read_want.ensures)

pub returns-in-Bye : goal.returns-in-Bye
returns-in-Bye c =
    subst (λ (word : LineWord). Reads (word_text word ++ 32 ∷ c.args.fields.now) c.read_bye.result) (sym c.in-Bye.is)
    (reads_bye c.args.fields.now c.read_bye.result c.read_bye.ensures)
