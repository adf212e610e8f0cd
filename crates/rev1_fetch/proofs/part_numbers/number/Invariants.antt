use Rattle.std.proofs.Common.{◌≡◌, ◌-◌, ◌^◌, drop}
use Rattle.imap_grammar.proofs.Digits.{capped}
use Rattle.rev1_fetch.proofs.part_numbers.number.Given as goal

abbrev pub invariant-loop-digit : goal.invariant-loop-digit
invariant-loop-digit l = capped (2 ^ 64 - 1) l.number (drop l.digit-index l.digits) ≡ capped (2 ^ 64 - 1) 0 l.digits
