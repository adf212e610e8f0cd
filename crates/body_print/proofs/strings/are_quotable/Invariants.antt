use Rattle.std.proofs.Common.{◌≡◌, drop}
use Rattle.std.specs.List.{list_all}
use Rattle.body_print.specs.Values.{is_quotable}
use Rattle.body_print.proofs.strings.are_quotable.Given as goal

abbrev pub invariant-loop-octet : goal.invariant-loop-octet
invariant-loop-octet l = list_all is_quotable (drop l.octet-index l.octets) ≡ list_all is_quotable l.octets
