-- A view's state in contracts (RFC 9051, section 2.3.1).

use Rattle.std.specs.Prelude.{ℕ, List, [], Option, Some, None, ◌==◌, if◌then◌else◌}
use Rattle.mailbox_rows.specs.ListedMessage.{ListedMessage}
use Rattle.session_view.specs.declared.view_entry.ViewEntry.{ViewEntry}

-- The messages of a mailbox that a session was shown, in order, under a UIDVALIDITY (RFC 9051,
-- section 2.3.1).
pub record ViewState : Type 0 where
  pub name : List ℕ
  pub uidvalidity : ℕ
  pub entries : List ViewEntry

-- The part of the mailbox's listing that belongs to the incarnation with UIDVALIDITY `uidvalidity`:
-- all of it if the mailbox has this one now; nothing if it has another one or doesn't exist.
abbrev pub rows_under : ℕ → Option ℕ → List ListedMessage → List ListedMessage
rows_under uidvalidity None rows = []
rows_under uidvalidity (Some now) rows = if now == uidvalidity then rows else []
