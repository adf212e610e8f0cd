-- The journal entries that compact forms represent.

use Rattle.std.specs.Prelude.{ℕ, List, [], ◌∷◌, None}
use Rattle.imap_answers.specs.declared.answer.Answer.TheVariants.{Completed}
use Rattle.imap_answers.specs.declared.fixed_words.CompletedWord.TheVariants as words
use Rattle.imap_node.specs.declared.reply.Reply.{Reply}
use Rattle.imap_node.specs.declared.reply.Reply.TheVariants.{Done}
use Rattle.imap_syntax.specs.declared.command.Command.TheVariants as commands
use Rattle.replica_lock.specs.FetchAnswers.{fetch_exchange_entry}
use Rattle.replica_lock.specs.declared.book.JournalEntry.{JournalEntry}
use Rattle.replica_lock.specs.declared.event.BookEvent.TheVariants.{Close, Command}
use Rattle.replica_lock.specs.declared.compact_entry.CompactForm.{CompactForm}
use Rattle.replica_lock.specs.declared.compact_entry.CompactForm.TheVariants as forms
use Rattle.replica_lock.specs.declared.compact_entry.EntryRef.{EntryRef}
use Rattle.replica_lock.specs.declared.compact_entry.EntryRef.TheVariants as refs
use Rattle.replica_lock.specs.declared.outcome.Outcome.TheVariants.{Closed, Replied}

-- The reply to a NOOP with this tag if nothing changed: only its tagged OK (RFC 9051, section
-- 6.1.2).
abbrev pub noop_done : List ℕ → Reply
noop_done tag = Done (Completed tag None words.Noop ∷ []) [] []

-- The entry of a NOOP with that reply.
abbrev pub noop_entry : ℕ → ℕ → List ℕ → JournalEntry
noop_entry session moment tag =
    record {
      event = Command session moment (record { tag = tag; command = commands.Noop });
      outcome = Replied (noop_done tag);
    }

-- The entry of a session that was closed.
abbrev pub closed_entry : ℕ → JournalEntry
closed_entry session = record { event = Close session; outcome = Closed }

-- The entry that a compact form represents.
abbrev pub entry_of : CompactForm → JournalEntry
entry_of (forms.Noop session moment tag) = noop_entry session moment tag
entry_of (forms.Closed session) = closed_entry session
entry_of (forms.Exchange exchange) = fetch_exchange_entry exchange.value
entry_of (forms.Whole entry) = entry.value

abbrev pub entry_of_ref : EntryRef → JournalEntry
entry_of_ref (refs.Noop session moment tag) = noop_entry session moment tag.now
entry_of_ref (refs.Closed session) = closed_entry session
entry_of_ref (refs.Exchange exchange) = fetch_exchange_entry exchange.now
entry_of_ref (refs.Whole entry) = entry.now
