-- How the code reads a list of addresses.

use Rattle.std.specs.Prelude.{ℕ, ◌-◌, List, take, drop}
use Rattle.mail_fields.specs.Addresses.{addresses_from}
use Rattle.mail_fields.specs.declared.address_list.Address.{Address}
use Rattle.mail_fields.specs.declared.address_list.ListPosition.{ListPosition}
use Rattle.mail_fields.specs.declared.elements.Element.{Element}

-- The addresses from an index on.
abbrev pub addresses_at : ListPosition → ℕ → List Element → List Address
addresses_at position index elements =
    addresses_from position.in_group position.place
    (take (index - position.start) (drop position.start elements)) (drop index elements)
