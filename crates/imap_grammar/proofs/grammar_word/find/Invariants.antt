use Rattle.std.proofs.Common.{◌≡◌, drop}
use Rattle.imap_grammar.specs.Reading.{named}
use Rattle.imap_grammar.proofs.grammar_word.find.Given as goal

abbrev pub invariant-loop-value : goal.invariant-loop-value
invariant-loop-value g l = named g.W.GrammarWord.word_of (drop l.value-index l.values) l.text ≡ named g.W.GrammarWord.word_of l.values l.text
