use Rattle.std.proofs.Common.{sym, subst, ◌∙◌}
use Rattle.link_wire.proofs.LineReadingLemmas.{Reads, no_word, word_line}
use Rattle.link_wire.proofs.line_reader.read_message.Goals as goal

pub returns-in-None : goal.returns-in-None
returns-in-None c =
    no_word c.args.line.now (c.in-Some.word.now, c.in-Some.fields.now) (sym c.spells.ensures ∙ c.if-spells.false) (sym c.in-Some.ensures) (sym c.in-None.ensures)

pub returns-in-Some-read_word : goal.returns-in-Some-read_word
returns-in-Some-read_word c =
    let line = word_line c.args.line.now (c.in-Some.word.now, c.in-Some.fields.now) c.in-Some-read_word.word (sym c.in-Some.ensures) (sym c.in-Some-read_word.ensures) in
    subst (λ line. Reads line c.read_fields.result) (sym line) c.read_fields.ensures
