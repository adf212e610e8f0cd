use Rattle.std.proofs.Common.{◌≡◌, ◌++◌, drop}
use Rattle.mail_fields.specs.AddressWords.{domain_after, domain_of}
use Rattle.mail_fields.proofs.address_words.domain_of.Given as goal

abbrev pub invariant-loop-element : goal.invariant-loop-element
invariant-loop-element l = l.domain.items ++ domain_after l.before (drop l.element-index l.elements) ≡ domain_of l.elements
