use Rattle.std.proofs.Common.{◌≡◌, ◌++◌, drop}
use Rattle.mail_fields.specs.WordLists.{words_from, words_of}
use Rattle.mail_fields.proofs.word_lists.words_of.Given as goal

abbrev pub invariant-loop-element : goal.invariant-loop-element
invariant-loop-element l = l.words.items ++ words_from l.word.items (drop l.element-index l.element-items) ≡ words_of l.value
