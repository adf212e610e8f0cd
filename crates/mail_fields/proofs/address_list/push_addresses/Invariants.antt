use Rattle.std.proofs.Common.{◌≡◌, ◌≤◌, ◌++◌}
use Rattle.mail_fields.specs.AddressReading.{addresses_at}
use Rattle.mail_fields.specs.Addresses.{addresses_of}
use Rattle.mail_fields.proofs.address_list.push_addresses.Given as goal

abbrev pub invariant-loop-index : goal.invariant-loop-index
invariant-loop-index l =
    record {
      within : l.position.start ≤ l.index;
      same : l.addresses.items ++ addresses_at l.position l.index l.elements.items ≡ l.initial.addresses.items ++ addresses_of l.value;
    }
