use Rattle.std.proofs.Common.{◌≡◌, ◌+◌, ◌≤◌, length}
use Rattle.mail_text.specs.TextSearch.{field_value}
use Rattle.mail_text.proofs.field_words.field_value.Given as goal

abbrev pub invariant-loop : goal.invariant-loop
invariant-loop l = (l.counter + length l.rest ≤ length l.text) × (field_value l.name l.rest ≡ field_value l.name l.text)
