use Rattle.std.proofs.Common.{◌≡◌, ◌++◌, take, drop}
use Rattle.imap_print.specs.Reading.{is_in, span}
use Rattle.imap_print.proofs.scanner.span.Given as goal

abbrev pub invariant-loop-count : goal.invariant-loop-count
invariant-loop-count l = record {
  front : (span (is_in l.class) l.bytes).0 ≡ take l.count l.bytes ++ (span (is_in l.class) (drop l.count l.bytes)).0;
  rest : (span (is_in l.class) l.bytes).1 ≡ (span (is_in l.class) (drop l.count l.bytes)).1;
}
