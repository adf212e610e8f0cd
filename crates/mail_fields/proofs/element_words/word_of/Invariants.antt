use Rattle.std.proofs.Common.{◌≡◌, ◌++◌, drop}
use Rattle.mail_fields.specs.HeaderValues.{word_of}
use Rattle.mail_fields.proofs.element_words.word_of.Given as goal

abbrev pub invariant-loop-element : goal.invariant-loop-element
invariant-loop-element l = l.word.items ++ word_of l.stops (drop l.element-index l.elements) ≡ word_of l.stops l.elements
