use Rattle.std.proofs.Common.{◌≡◌, ◌++◌, drop}
use Rattle.mail_fields.specs.AddressWords.{joined_text}
use Rattle.mail_fields.proofs.address_words.joined_text.Given as goal

abbrev pub invariant-loop-element : goal.invariant-loop-element
invariant-loop-element l = l.text.items ++ joined_text (drop l.element-index l.elements) ≡ joined_text l.elements
