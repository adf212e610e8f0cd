use Rattle.std.proofs.Common.{◌≡◌, ◌+◌, drop}
use Rattle.mail_fields.specs.AddressWords.{count_before}
use Rattle.mail_fields.proofs.address_words.count_before.Given as goal

abbrev pub invariant-loop-place : goal.invariant-loop-place
invariant-loop-place l = l.place + count_before l.sought (drop l.place l.elements) ≡ count_before l.sought l.elements
