use Rattle.std.proofs.Common.{◌≡◌, ◌++◌, drop}
use Rattle.body_print.specs.Values.{escaped}
use Rattle.body_print.proofs.strings.push_escaped.Given as goal

abbrev pub invariant-loop-octet : goal.invariant-loop-octet
invariant-loop-octet l = l.out.items ++ escaped (drop l.octet-index l.octets) ≡ l.initial.out.items ++ escaped l.octets
