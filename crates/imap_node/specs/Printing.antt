-- When the operations that a node has applied can be shown, and when a session can be answered, so
-- that all answers can be printed.

use Rattle.std.specs.Prelude.{◌≡◌, ℕ, ◌+◌, List, length, Some}
use Rattle.crdt_ops.specs.declared.op.Op.{Op}
use Rattle.imap_answers.specs.declared.answer.Answer.{Answer}
use Rattle.imap_answers.specs.Printable.{Each, IsPrintable, IsTag, IsWide, IfPresent}
use Rattle.imap_commands.specs.Printing.{IsNumbered}
use Rattle.imap_commands.specs.declared.session.Session.{Session}
use Rattle.imap_commands.specs.declared.session.State.{State}
use Rattle.imap_commands.specs.declared.session.State.TheVariants.{Selected}
use Rattle.uid_projection.specs.declared.first_numbers.Counters.{Counters}
use Rattle.uid_projection.specs.Bounds.{AreWritable, IsLasting, IsLawfulStart}
use Rattle.imap_node.specs.Sessions.{Places, with_session}

-- The operations that a node has applied can be shown: its first numbers are lawful, no counter was
-- used up, and the operations can be written and counted.
pub record IsPresentable (start : Counters) (ops : List Op) : Type 0 where
  pub lawful : IsLawfulStart start
  pub lasting : IsLasting start ops
  pub writable : AreWritable ops
  pub count : IsWide (1 + length ops)

-- The messages in the view have ascending UIDs of 32 bits.
abbrev pub HasNumberedView : State → Type 0
HasNumberedView (Selected view read_only) = IsNumbered view.entries
HasNumberedView _ = Unit {0}

-- A session can be answered: the messages in its view can be numbered, and the IDLE that it is in
-- has a tag.
pub record IsAnswerableIn (session : Session) : Type 0 where
  pub state : HasNumberedView session.state
  pub idling : IfPresent IsTag session.idling

-- All answers can be printed, and the session afterwards can be answered again.
pub record HasPrintableAnswers (old : Places) (n : ℕ) (answers : List Answer) (new : Places) :
    Type 0 where
  pub printable : Each IsPrintable answers
  pub next : Session
  pub sessions : new ≡ with_session old n (Some next)
  pub answerable : IsAnswerableIn next
