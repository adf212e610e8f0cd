-- Reports that can be printed, and the listings and views that give them (RFC 9051, section 9;
-- RFC 7162, section 7).

use Rattle.std.specs.Prelude.{◌≡◌, ◌<◌, List, length}
use Rattle.imap_answers.specs.Printable.{AreFlags, Each, IsCode, IsFolded, IsModSeq, IsNonzero}
use Rattle.imap_answers.specs.Printable.{IsPrintable, IsSection, IsSmall, IsWide, IfPresent}
use Rattle.imap_syntax.specs.declared.command.Command.{Command}
use Rattle.imap_syntax.specs.declared.command.Command.TheVariants as commands
use Rattle.imap_syntax.specs.declared.fetch.FetchItem.{FetchItem}
use Rattle.imap_syntax.specs.declared.fetch.FetchItem.TheVariants.{Body, Flags, InternalDate}
use Rattle.imap_syntax.specs.declared.fetch.FetchItem.TheVariants.{ModSeq, Size, Uid}
use Rattle.imap_query.specs.declared.mailbox_status.MailboxCounters.{MailboxCounters}
use Rattle.imap_types.specs.DateTimes.{IsDateTime}
use Rattle.mailbox_rows.specs.ListedMessage.{ListedMessage}
use Rattle.mailbox_rows.specs.RowViews.{AreRisingRows}
use Rattle.session_view.specs.Sets.{numbers_in_set}
use Rattle.session_view.specs.Views.{AreRising}
use Rattle.session_view.specs.declared.view_entry.ViewEntry.{ViewEntry}
use Rattle.imap_commands.specs.Arguments.{CopyTarget, OpenMailbox}
use Rattle.imap_commands.specs.CopyCommand.{copies_in, sources_of}
use Rattle.imap_commands.specs.Report.{CommandReport}
use Rattle.imap_syntax.specs.declared.arguments.Transfer.{Transfer}

-- A report can be printed: its own answers can, and so can the code of its tagged line.
pub record IsPrintableReport (report : CommandReport) : Type 0 where
  pub own : Each IsPrintable report.own
  pub code : IfPresent IsCode report.code

-- A message can be shown: its UID and mod-sequence are at least 1 and have 32 and 64 bits, its
-- keywords are atoms in lower case, its date is a date-time, and its octets can be counted
-- (RFC 9051, section 9; RFC 7162, section 7).
pub record IsShowable (row : ListedMessage) : Type 0 where
  pub uid : IsNonzero row.uid
  pub modseq : IsModSeq row.modseq
  pub flags : AreFlags row.flags
  pub date : IsDateTime row.date
  pub text : IsWide (length row.text)

-- A listing can be shown: each of its messages can, and their UIDs ascend (RFC 9051,
-- section 2.3.1.1).
pub record AreShowable (rows : List ListedMessage) : Type 0 where
  pub each : Each IsShowable rows
  pub rising : AreRisingRows 1 rows

-- The UIDs of a view's messages ascend, are at least 1 and have 32 bits.
pub record IsNumbered (view : List ViewEntry) : Type 0 where
  pub small : Each (λ e. IsSmall e.uid) view
  pub rising : AreRising 1 view

-- A mailbox's counters are at least 1: UIDNEXT and UIDVALIDITY of 32 bits, HIGHESTMODSEQ of 64.
pub record AreNonzeroCounters (counters : MailboxCounters) : Type 0 where
  pub uidnext : IsNonzero counters.uidnext
  pub uidvalidity : IsNonzero counters.uidvalidity
  pub highest : IsModSeq counters.highest_modseq

-- An item of FETCH can be printed in an answer: a section names at least one field, and they can be
-- counted; a partial begins at a number of 32 bits (RFC 9051, section 9, fetch-att).
abbrev pub IsAnswerableItem : FetchItem → Type 0
IsAnswerableItem Uid = Unit {0}
IsAnswerableItem Flags = Unit {0}
IsAnswerableItem InternalDate = Unit {0}
IsAnswerableItem Size = Unit {0}
IsAnswerableItem ModSeq = Unit {0}
IsAnswerableItem (Body peek section partial) =
    IsSection section × IfPresent (λ cut. IsSmall cut.start) partial

-- Each item of a FETCH can be printed in an answer, and there is at least one.
pub record AreAnswerableItems (items : List FetchItem) : Type 0 where
  pub some : 0 < length items
  pub each : Each IsAnswerableItem items

-- The destination got as many messages as the command copied (RFC 9051, section 7.1, COPYUID).
abbrev pub HasAllCopies : OpenMailbox → Transfer → CopyTarget → Type 0
HasAllCopies mailbox request target =
    length
    (sources_of mailbox.rows mailbox.view
    (numbers_in_set request.by_uid request.messages mailbox.view))
    ≡ length (copies_in target.uidnext target.rows)

-- A command's arguments can be printed in its answers: names have INBOX in capitals, and there is
-- at least one item, each of which can be printed.
abbrev pub IsAnswerable : Command → Type 0
IsAnswerable (commands.Select name condstore) = IsFolded name
IsAnswerable (commands.Examine name condstore) = IsFolded name
IsAnswerable (commands.Status name items) = IsFolded name × (0 < length items)
IsAnswerable (commands.Fetch request) = AreAnswerableItems request.items
IsAnswerable _ = Unit {0}
