-- The items that STATUS reports (RFC 9051, section 6.3.11; RFC 7162, section 3.1.7).

use Rattle.std.specs.Prelude.{ℕ, Bool, true, false, ◌==◌, List, length, min, Option, Some, None}
use Rattle.std.specs.Prelude.{if◌then◌else◌}
use Rattle.std.specs.List.{filter, list_any, sum_by}
use Rattle.imap_answers.specs.declared.mailbox.StatusItems.{StatusItems}
use Rattle.imap_syntax.specs.declared.flags.SystemFlag.TheVariants.{Deleted, Seen}
use Rattle.imap_syntax.specs.declared.status.StatusItem.{StatusItem}
use Rattle.imap_syntax.specs.declared.status.StatusItem.TheVariants.{Messages, UidNext, UidValidity}
use Rattle.imap_syntax.specs.declared.status.StatusItem.TheVariants.{Unseen, Deleted as DeletedItem}
use Rattle.imap_syntax.specs.declared.status.StatusItem.TheVariants.{Size, HighestModSeq}
use Rattle.mailbox_rows.specs.ListedMessage.{ListedMessage}
use Rattle.imap_query.specs.Messages.{is_flagged}
use Rattle.imap_query.specs.declared.mailbox_status.MailboxCounters.{MailboxCounters}

-- A number for each item.
abbrev pub item_number : StatusItem → ℕ
item_number Messages = 0
item_number UidNext = 1
item_number UidValidity = 2
item_number Unseen = 3
item_number DeletedItem = 4
item_number Size = 5
item_number HighestModSeq = 6

-- Whether an item is among those requested.
abbrev pub is_asked : StatusItem → List StatusItem → Bool
is_asked item items = list_any (λ other. item_number other == item_number item) items

-- A number, if its item was requested.
abbrev pub if_asked : StatusItem → List StatusItem → ℕ → Option ℕ
if_asked item items number = if is_asked item items then Some number else None

-- The octets of a message.
abbrev pub size_of : ListedMessage → ℕ
size_of row = length row.text

-- The items that STATUS reports, from a mailbox's listing and its counters, each requested item
-- once; the sum of all messages' octets stops at the greatest number of 64 bits (RFC 9051,
-- section 6.3.11; RFC 7162, section 3.1.7).
abbrev pub status_of : List StatusItem → MailboxCounters → List ListedMessage → StatusItems
status_of items counters rows = record {
  messages = if_asked Messages items (length rows);
  uidnext = if_asked UidNext items counters.uidnext;
  uidvalidity = if_asked UidValidity items counters.uidvalidity;
  unseen = if_asked Unseen items (length (filter (is_flagged Seen false) rows));
  deleted = if_asked DeletedItem items (length (filter (is_flagged Deleted true) rows));
  size = if_asked Size items (min (sum_by size_of rows) 18446744073709551615);
  highest_modseq = if_asked HighestModSeq items counters.highest_modseq;
}
