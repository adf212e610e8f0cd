use Rattle.std.proofs.Common.{◌≡◌, drop}
use Rattle.mail_fields.specs.AddressWords.{comment_after, comment_of}
use Rattle.mail_fields.proofs.address_words.comment_of.Given as goal

abbrev pub invariant-loop-element : goal.invariant-loop-element
invariant-loop-element l = comment_after l.latest (drop l.element-index l.elements) ≡ comment_of l.elements
