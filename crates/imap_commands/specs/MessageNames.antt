-- The names of a view's messages: message numbers or UIDs (RFC 9051, section 2.3.1).

use Rattle.std.specs.Prelude.{ℕ, Bool, not, List, map, Option, Some, None, if◌then◌else◌}
use Rattle.std.specs.List.{filter}
use Rattle.mailbox_rows.specs.ListedMessage.{ListedMessage}
use Rattle.session_view.specs.declared.view_entry.ViewEntry.{ViewEntry}
use Rattle.imap_commands.specs.Report.{entry_at, is_gone, message_at}

-- The numbers among these whose messages the listing has.
abbrev pub existing_messages : List ListedMessage → List ViewEntry → List ℕ → List ℕ
existing_messages rows view numbers = filter (λ n. not (is_gone (message_at rows view n))) numbers

-- A message's UID, 0 if there is no message.
abbrev pub uid_in : Option ViewEntry → ℕ
uid_in None = 0
uid_in (Some e) = e.uid

-- The name of the message with this number: its UID or the number.
abbrev pub name_at : Bool → List ViewEntry → ℕ → ℕ
name_at by_uid view n = if by_uid then uid_in (entry_at view n) else n

-- The names of the messages with these numbers.
abbrev pub names_of : Bool → List ViewEntry → List ℕ → List ℕ
names_of by_uid view numbers = map (name_at by_uid view) numbers
