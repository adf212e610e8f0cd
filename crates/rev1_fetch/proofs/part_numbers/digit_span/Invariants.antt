use Rattle.std.proofs.Common.{◌≡◌, ◌++◌, take, drop}
use Rattle.imap_types.specs.DateTimes.{is_digit}
use Rattle.imap_grammar.specs.Reading.{span}
use Rattle.rev1_fetch.proofs.part_numbers.digit_span.Given as goal

abbrev pub invariant-loop-octet : goal.invariant-loop-octet
invariant-loop-octet l =
    (l.len ≡ l.octet-index)
    × (span is_digit l.octets ≡ (take l.len l.octets ++ (span is_digit (drop l.len l.octets)).0, (span is_digit (drop l.len l.octets)).1))
