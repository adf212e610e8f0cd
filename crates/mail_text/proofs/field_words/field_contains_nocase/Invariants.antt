use Rattle.std.proofs.Common.{◌≡◌, ◌+◌, ◌≤◌, length}
use Rattle.mail_text.specs.TextSearch.{any_field_holds}
use Rattle.mail_text.proofs.field_words.field_contains_nocase.Given as goal

abbrev pub invariant-loop : goal.invariant-loop
invariant-loop l = (l.counter + length l.rest ≤ length l.text) × (any_field_holds l.name l.word l.rest ≡ any_field_holds l.name l.word l.text)
