-- The values of all header fields of a name (RFC 5322, section 3.6).

use Rattle.std.specs.Prelude.{ℕ, List, [], ◌∷◌, ◌++◌, if◌then◌else◌}
use Rattle.std.specs.List.{concat}
use Rattle.mail_text.specs.HeaderFields.{field_lines, fields_in, first_asked, has_requested_name}
use Rattle.mail_text.specs.TextLines.{lines_of}
use Rattle.mail_text.specs.TextSearch.{after_colon}
use Rattle.mail_fields.specs.Addresses.{addresses_of}
use Rattle.mail_fields.specs.declared.address_list.Address.{Address}

-- What follows the first colon of each field with this name, in the order of the fields.
abbrev pub values_in : List ℕ → List (List (List ℕ)) → List (List ℕ)
values_in name [] = []
values_in name (field ∷ fields) =
    if first_asked (has_requested_name (name ∷ [])) field
    then after_colon (concat field) ∷ values_in name fields
    else values_in name fields

-- The values of all fields with this name in a header.
abbrev pub field_values : List ℕ → List ℕ → List (List ℕ)
field_values name header = values_in name (fields_in (field_lines (lines_of header)))

-- The addresses of values, one after another.
abbrev pub addresses_in : List (List ℕ) → List Address
addresses_in [] = []
addresses_in (value ∷ values) = addresses_of value ++ addresses_in values

-- The addresses of all fields with this name are one list.
abbrev pub addresses_named : List ℕ → List ℕ → List Address
addresses_named name header = addresses_in (field_values name header)
