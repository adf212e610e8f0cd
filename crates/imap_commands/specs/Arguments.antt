-- The mailboxes that a command works on (RFC 9051, section 6).

use Rattle.std.specs.Prelude.{ℕ, Bool, List}
use Rattle.mailbox_rows.specs.ListedMessage.{ListedMessage}
use Rattle.session_view.specs.declared.view_entry.ViewEntry.{ViewEntry}

-- The mailbox that a session has selected, before a command: its name, its listing, the session's
-- view of it, and whether it was selected read-only (RFC 9051, section 6.3.3).
pub record OpenMailbox : Type 0 where
  pub name : List ℕ
  pub rows : List ListedMessage
  pub view : List ViewEntry
  pub read_only : Bool

-- The destination of a COPY or MOVE: its UIDVALIDITY, its UIDNEXT before the command, and its
-- listing after it.
pub record CopyTarget : Type 0 where
  pub uidvalidity : ℕ
  pub uidnext : ℕ
  pub rows : List ListedMessage
