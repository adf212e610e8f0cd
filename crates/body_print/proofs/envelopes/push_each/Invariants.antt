use Rattle.std.proofs.Common.{◌≡◌, ◌++◌, drop}
use Rattle.body_print.specs.Envelopes.{address_values}
use Rattle.body_print.specs.Values.{joined_text}
use Rattle.body_print.proofs.envelopes.push_each.Given as goal

abbrev pub invariant-loop-address : goal.invariant-loop-address
invariant-loop-address l =
    l.out.items ++ joined_text (address_values (drop l.address-index l.addresses)) ≡ l.initial.out.items ++ joined_text (address_values l.addresses)
