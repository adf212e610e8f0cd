use Rattle.imap_grammar.proofs.Scans.{named_equal, passed}
use Rattle.imap_grammar.proofs.grammar_word.find.Goals as goal

pub returns-then-eq_ignore_ascii_case : goal.returns-then-eq_ignore_ascii_case
returns-then-eq_ignore_ascii_case g c =
    named_equal g.W.GrammarWord.word_of c.args.text.now c.args.values.now c.loop-value.value-index c.value-item.result c.text.result.now c.eq_ignore_ascii_case.result
    c.loop-value-test.true c.value-item.is c.text.ensures c.eq_ignore_ascii_case.ensures.test c.if-eq_ignore_ascii_case.true c.loop-value.invariant

pub loop-value-preserved : goal.loop-value-preserved
loop-value-preserved g c =
    passed g.W.GrammarWord.word_of c.args.text.now c.args.values.now c.loop-value.value-index c.value-item.result c.text.result.now c.eq_ignore_ascii_case.result
    c.loop-value-test.true c.value-item.is c.text.ensures c.eq_ignore_ascii_case.ensures.test c.if-eq_ignore_ascii_case.false c.loop-value.invariant
