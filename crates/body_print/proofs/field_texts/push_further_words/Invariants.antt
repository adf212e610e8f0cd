use Rattle.std.proofs.Common.{◌≡◌, ◌++◌, drop}
use Rattle.body_print.specs.FieldTexts.{further_words}
use Rattle.body_print.specs.Values.{spaced_text}
use Rattle.body_print.proofs.field_texts.push_further_words.Given as goal

abbrev pub invariant-loop-word : goal.invariant-loop-word
invariant-loop-word l = l.out.items ++ spaced_text (further_words (drop l.word-index l.words)) ≡ l.initial.out.items ++ spaced_text (further_words l.words)
