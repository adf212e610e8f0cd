-- The messages that rows show, and look-ups in lists of them by UID (RFC 9051, section 2.3.1.1) and
-- by mod-sequence (RFC 7162, section 3.1.4).

use Rattle.std.specs.Prelude.{ℕ, ◌+◌, ◌≤◌, nat_lt, ◌==◌, List, [], ◌∷◌, Option, Some, None, codes}
use Rattle.std.specs.Prelude.{if◌then◌else◌}
use Rattle.std.specs.List.{filter}
use Rattle.std.specs.Option.{option_map, unwrap_or}
use Rattle.imap_types.specs.Unions.{united_flags, version_ids}
use Rattle.imap_types.specs.declared.version.Version.{Version}
use Rattle.mailbox_rows.specs.ListedMessage.{ListedHead, ListedMessage}
use Rattle.mailbox_rows.specs.declared.row.Row.{Row}
use Rattle.mailbox_rows.specs.declared.row.RowHead.{RowHead}
use Rattle.mailbox_rows.specs.declared.owned_row.OwnedRow.{OwnedRow}
use Rattle.mailbox_rows.specs.declared.owned_row.VersionsCow.{VersionsCow}
use Rattle.mailbox_rows.specs.declared.owned_row.VersionsCow.TheVariants.{Borrowed, Own}

-- The date-time shown for a message whose date is unknown.
abbrev pub epoch : List ℕ
epoch = codes "\"01-Jan-1970 00:00:00 +0000\""

-- The message that a row shows.
abbrev pub listed_message : Row → ListedMessage
listed_message row = record {
  uid = row.uid;
  modseq = row.modseq;
  origin = row.origin;
  versions = version_ids row.versions.list.now;
  flags = united_flags row.versions.list.now;
  date = unwrap_or (option_map (λ date. date.now) row.date) epoch;
  text = unwrap_or (option_map (λ text. text.now) row.text) [];
}

-- The head of the message that a row's head shows.
abbrev pub listed_head : RowHead → ListedHead
listed_head head = record {
  uid = head.uid;
  modseq = head.modseq;
  versions = version_ids head.versions.list.now;
  flags = united_flags head.versions.list.now;
}

-- A message without its origin, date and text.
abbrev pub head_of : ListedMessage → ListedHead
head_of row =
    record { uid = row.uid; modseq = row.modseq; versions = row.versions; flags = row.flags }

-- The versions of an owned row, whether borrowed or its own.
abbrev pub owned_versions : VersionsCow → List Version
owned_versions (Borrowed versions) = versions.list.now
owned_versions (Own versions) = versions.items

-- The message that an owned row shows.
abbrev pub owned_message : OwnedRow → ListedMessage
owned_message row = record {
  uid = row.uid;
  modseq = row.modseq;
  origin = row.origin;
  versions = version_ids (owned_versions row.versions);
  flags = united_flags (owned_versions row.versions);
  date = unwrap_or (option_map (λ date. date.now) row.date) epoch;
  text = unwrap_or (option_map (λ text. text.now) row.text) [];
}

-- The message of a listing with this UID, if it exists.
abbrev pub row_of : ℕ → List ListedMessage → Option ListedMessage
row_of uid [] = None
row_of uid (row ∷ rows) = if row.uid == uid then Some row else row_of uid rows

-- The messages with UIDs above this one.
abbrev pub rows_after_uid : ℕ → List ListedMessage → List ListedMessage
rows_after_uid uid rows = filter (λ row. nat_lt uid row.uid) rows

-- The UIDs ascend strictly, the first of them at least `low`.
abbrev pub AreRisingRows : ℕ → List ListedMessage → Type 0
AreRisingRows low [] = Unit {0}
AreRisingRows low (row ∷ rows) = (low ≤ row.uid) × AreRisingRows (row.uid + 1) rows

-- The UID of the last message; `low` if there are none.
abbrev pub last_uid : ℕ → List ListedMessage → ℕ
last_uid low [] = low
last_uid low (row ∷ rows) = last_uid row.uid rows

-- The messages that changed since this mod-sequence: those with greater ones (RFC 7162, section
-- 3.1.4).
abbrev pub changed_since : ℕ → List ListedMessage → List ListedMessage
changed_since modseq rows = filter (λ row. nat_lt modseq row.modseq) rows
