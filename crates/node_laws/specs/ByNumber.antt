-- Commands by message numbers, and views in which each message keeps its number (RFC 9051,
-- section 7.5.1).

use Rattle.std.specs.Prelude.{◌≡◌, ℕ, Bool, false, not, List, [], ◌++◌, Option, Some}
use Rattle.imap_answers.specs.declared.answer.Answer.{Answer}
use Rattle.imap_syntax.specs.declared.command.Command.{Command}
use Rattle.imap_syntax.specs.declared.command.Command.TheVariants as commands
use Rattle.session_view.specs.ViewState.{ViewState}
use Rattle.session_view.specs.NoteChanges.{uids_of}
use Rattle.imap_node.specs.declared.input.Input.{Input}
use Rattle.imap_node.specs.declared.input.Input.TheVariants as inputs
use Rattle.imap_node.specs.declared.reply.Reply.{Reply}
use Rattle.imap_node.specs.declared.reply.Reply.TheVariants.{Done, Refused}

-- Whether a command is FETCH, STORE or SEARCH by message numbers, and not by UIDs (RFC 9051,
-- section 7.5.1).
abbrev pub is_by_number : Command → Bool
is_by_number (commands.Search request) = not request.by_uid
is_by_number (commands.Fetch request) = not request.by_uid
is_by_number (commands.Store request) = not request.by_uid
is_by_number _ = false

-- Whether an input is such a command.
abbrev pub asks_by_number : Input → Bool
asks_by_number (inputs.Command moment tagged) = is_by_number tagged.command
asks_by_number (inputs.Line line) = false
asks_by_number inputs.Poll = false

-- The answers of a reply, with the tagged line as the last, if the input was carried out.
abbrev pub answers_in : Reply → List Answer
answers_in (Done answers silent issued) = answers
answers_in (Refused why closed) = []

-- A list begins with these items.
abbrev pub BeginsWith : List ℕ → List ℕ → Type 0
BeginsWith front whole = (more : List ℕ) × (whole ≡ front ++ more)

-- The same mailbox is still selected, under the same UIDVALIDITY, and each message shown before
-- still has its number: new messages come after them.
pub record KeepsPlaces (before after : ViewState) : Type 0 where
  pub name : after.name ≡ before.name
  pub uidvalidity : after.uidvalidity ≡ before.uidvalidity
  pub uids : BeginsWith (uids_of before.entries) (uids_of after.entries)

-- If a session had a view, it still has one, in which each message keeps its number.
abbrev pub ViewKeepsPlaces : Option ViewState → Option ViewState → Type 0
ViewKeepsPlaces before after =
    (view : ViewState) → before ≡ Some view
    → (now : ViewState) × (after ≡ Some now) × KeepsPlaces view now
