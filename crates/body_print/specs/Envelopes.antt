-- The envelope of a message (RFC 3501, section 7.4.2; RFC 9051, section 7.5.2).

use Rattle.std.specs.Prelude.{ℕ, List, [], ◌∷◌, ◌++◌, codes, length, ◌==◌, if◌then◌else◌}
use Rattle.mail_fields.specs.FieldValues.{addresses_named}
use Rattle.mail_fields.specs.declared.address_list.Address.{Address}
use Rattle.mail_fields.specs.declared.address_list.Address.TheVariants.{GroupEnd, GroupStart}
use Rattle.mail_fields.specs.declared.address_list.Address.TheVariants.{Mailbox}
use Rattle.mail_text.specs.TextSearch.{field_value}
use Rattle.body_print.specs.FieldTexts.{field_or_nil, text_or_nil}
use Rattle.body_print.specs.Values.{Joined, Spaced, Value, next, one}
use Rattle.body_print.specs.Values.Joined.{JoinedFrom, NoJoined}
use Rattle.body_print.specs.Values.Spaced.{NoSpaced}
use Rattle.body_print.specs.Values.Value.{ListValue, NilValue, TextValue}

-- An address: its name, its route, its local part and its domain. A group begins with its name and
-- without a domain, and ends without a name.
abbrev pub address_value : Address → Value
address_value (Mailbox mailbox) =
    ListValue (one (text_or_nil mailbox.name)) (next (text_or_nil mailbox.route)
    (next (TextValue mailbox.local_part) (next (TextValue mailbox.host) NoSpaced)))
address_value (GroupStart name) =
    ListValue (one NilValue) (next NilValue (next (TextValue name) (next NilValue NoSpaced)))
address_value GroupEnd =
    ListValue (one NilValue) (next NilValue (next NilValue (next NilValue NoSpaced)))

abbrev pub address_values : List Address → Joined
address_values [] = NoJoined
address_values (address ∷ addresses) = JoinedFrom (address_value address) (address_values addresses)

-- A list of addresses: NIL if it is empty.
abbrev pub address_list : List Address → Value
address_list addresses =
    if length addresses == 0 then NilValue else ListValue (address_values addresses) NoSpaced

-- The first field of a name.
abbrev pub field_named : List ℕ → List ℕ → Value
field_named name header = field_or_nil (field_value name header)

-- The addresses, or the senders if there are none.
abbrev pub or_senders : List Address → List Address → List Address
or_senders senders addresses = if length addresses == 0 then senders else addresses

-- The items of an envelope that are senders; recipients; ids.
abbrev pub with_senders : List ℕ → List Address → Spaced → Spaced
with_senders header senders more =
    next (address_list senders)
    (next (address_list (or_senders senders (addresses_named (codes "Sender") header)))
    (next (address_list (or_senders senders (addresses_named (codes "Reply-To") header))) more))

abbrev pub with_recipients : List ℕ → Spaced → Spaced
with_recipients header more =
    next (address_list (addresses_named (codes "To") header))
    (next (address_list (addresses_named (codes "Cc") header))
    (next (address_list (addresses_named (codes "Bcc") header)) more))

abbrev pub with_ids : List ℕ → Spaced → Spaced
with_ids header more =
    next (field_named (codes "In-Reply-To") header)
    (next (field_named (codes "Message-ID") header) more)

-- The envelope of a message with this header: date, subject, senders, recipients and ids.
abbrev pub envelope_of : List ℕ → Value
envelope_of header =
    ListValue (one (field_named (codes "Date") header))
    (next (field_named (codes "Subject") header)
    (with_senders header (addresses_named (codes "From") header)
    (with_recipients header (with_ids header NoSpaced))))
