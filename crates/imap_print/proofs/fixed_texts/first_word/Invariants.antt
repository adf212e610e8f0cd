use Rattle.std.proofs.Common.{◌≡◌, drop}
use Rattle.imap_print.specs.Reading.{word_at}
use Rattle.imap_print.proofs.fixed_texts.first_word.Given as goal

abbrev pub invariant-loop-candidate : goal.invariant-loop-candidate
invariant-loop-candidate g l = word_at g.W.FixedText.word (drop l.candidate-index l.candidates) l.bytes ≡ word_at g.W.FixedText.word l.candidates l.bytes
