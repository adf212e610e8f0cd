-- The FETCH answers that compact forms represent (RFC 9051, section 7.5.2; RFC 7162, section 3.1).

use Rattle.std.specs.Prelude.{ℕ, ◌==◌, Option, None, Some, List, [], ◌∷◌, ◌++◌, map, if◌then◌else◌}
use Rattle.std.specs.Option.{option_map}
use Rattle.imap_answers.specs.declared.answer.Answer.{Answer}
use Rattle.imap_answers.specs.declared.answer.Answer.TheVariants.{Completed, Fetch}
use Rattle.imap_answers.specs.declared.fetch_items.FetchItems.{FetchItems}
use Rattle.imap_answers.specs.declared.fetch_items.SectionData.{SectionData}
use Rattle.imap_answers.specs.declared.fixed_words.CompletedWord.{CompletedWord}
use Rattle.imap_node.specs.declared.reply.Reply.{Reply}
use Rattle.imap_node.specs.declared.reply.Reply.TheVariants.{Done}
use Rattle.imap_types.specs.declared.flags.Flags.{Flags}
use Rattle.replica_lock.specs.declared.book.JournalEntry.{JournalEntry}
use Rattle.replica_lock.specs.declared.event.BookEvent.TheVariants.{Command}
use Rattle.replica_lock.specs.declared.fetch_line.FetchLine.{FetchLine}
use Rattle.replica_lock.specs.declared.fetch_line.SystemFlags.{SystemFlags}
use Rattle.replica_lock.specs.declared.outcome.Outcome.TheVariants.{Replied}
use Rattle.replica_lock.specs.declared.fetch_answers.FetchAnswers.{FetchAnswers}
use Rattle.replica_lock.specs.declared.fetch_answers.FetchAnswers.TheVariants.{Lines, Parts}
use Rattle.replica_lock.specs.declared.fetch_exchange.FetchExchange.{FetchExchange}

-- The flags without keywords (RFC 9051, section 2.3.2).
abbrev pub flags_of : SystemFlags → Flags
flags_of flags =
    record {
      answered = flags.answered;
      flagged = flags.flagged;
      deleted = flags.deleted;
      seen = flags.seen;
      draft = flags.draft;
      keywords = [];
    }

-- The number, or none for 0.
abbrev pub some_if_nonzero : ℕ → Option ℕ
some_if_nonzero number = if number == 0 then None else Some number

-- The items of a line, with these parts of the message's text, and the FETCH answer that has them
-- (RFC 9051, section 7.5.2).
abbrev pub items_of : FetchLine → List SectionData → FetchItems
items_of line sections =
    record {
      uid = some_if_nonzero line.uid;
      flags = option_map flags_of line.flags;
      date = None;
      size = None;
      modseq = some_if_nonzero line.modseq;
      sections = sections;
    }

abbrev pub answer_with : List SectionData → FetchLine → Answer
answer_with sections line = Fetch line.number (items_of line sections)

-- The FETCH answer of a line, without parts of a text.
abbrev pub answer_of : FetchLine → Answer
answer_of line = answer_with [] line

-- The answers that a compact form represents.
abbrev pub answers_of : FetchAnswers → List Answer
answers_of (Lines lines) = map answer_of lines.items
answers_of (Parts line sections) = answer_with sections line ∷ []

-- The answers to a command with this tag: these FETCH answers, and its tagged OK (RFC 9051, section
-- 7.1.1).
abbrev pub fetch_exchange_answers : List ℕ → CompletedWord → FetchAnswers → List Answer
fetch_exchange_answers tag word shown = answers_of shown ++ Completed tag None word ∷ []

-- The reply that has only these answers.
abbrev pub fetch_exchange_reply : List ℕ → CompletedWord → FetchAnswers → Reply
fetch_exchange_reply tag word shown = Done (fetch_exchange_answers tag word shown) [] []

-- The journal entry of a command with such a reply.
abbrev pub fetch_exchange_entry : FetchExchange → JournalEntry
fetch_exchange_entry exchange =
    record {
      event = Command exchange.session exchange.moment exchange.tagged;
      outcome = Replied (fetch_exchange_reply exchange.tagged.tag exchange.word exchange.shown);
    }
