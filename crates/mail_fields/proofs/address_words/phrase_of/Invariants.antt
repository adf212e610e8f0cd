use Rattle.std.proofs.Common.{◌≡◌, ◌++◌, drop}
use Rattle.mail_fields.specs.AddressWords.{phrase_after, phrase_of}
use Rattle.mail_fields.proofs.address_words.phrase_of.Given as goal

abbrev pub invariant-loop-element : goal.invariant-loop-element
invariant-loop-element l = l.text.items ++ phrase_after l.before (drop l.element-index l.elements) ≡ phrase_of l.elements
