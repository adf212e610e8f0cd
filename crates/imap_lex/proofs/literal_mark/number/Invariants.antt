use Rattle.std.proofs.Common.{◌≡◌, ◌<◌, ◌^◌, drop}
use Rattle.imap_lex.specs.Marks.{value_of}
use Rattle.imap_lex.proofs.literal_mark.number.Given as goal

abbrev pub invariant-loop-digit : goal.invariant-loop-digit
invariant-loop-digit l = (value_of l.number (drop l.digit-index l.digits) ≡ value_of 0 l.digits) × (l.number < 2 ^ 64)
