use Rattle.std.proofs.Common.{◌≡◌, drop}
use Rattle.std.specs.List.{list_all}
use Rattle.imap_print.specs.Reading.{is_in}
use Rattle.imap_print.proofs.printable.are_in.Given as goal

abbrev pub invariant-loop-octet : goal.invariant-loop-octet
invariant-loop-octet l = list_all (is_in l.class) (drop l.octet-index l.octets) ≡ list_all (is_in l.class) l.octets
