-- APPENDUID and COPYUID report the UIDs of the messages appended (RFC 9051, section 7.1).

use Rattle.std.specs.Prelude.{◌≡◌, ℕ, Bool, false, List, [], ◌∷◌, Some}
use Rattle.std.specs.List.{filter}
use Rattle.std.specs.Str.{bytes_eq}
use Rattle.crdt_ops.specs.declared.kind.Kind.{Kind}
use Rattle.crdt_ops.specs.declared.kind.Kind.TheVariants.{Append}
use Rattle.crdt_ops.specs.declared.op.Op.{Op}
use Rattle.imap_answers.specs.declared.answer.Answer.{Answer}
use Rattle.imap_answers.specs.declared.answer.Answer.TheVariants.{Completed}
use Rattle.imap_answers.specs.declared.codes.Code.{Code}
use Rattle.imap_answers.specs.declared.fixed_words.CompletedWord.{CompletedWord}
use Rattle.imap_node.specs.Mailboxes.{rows_for}
use Rattle.imap_node.specs.Nodes.{NodeState}
use Rattle.imap_node.specs.declared.input.Input.{Input}
use Rattle.imap_node.specs.declared.input.Input.TheVariants as inputs
use Rattle.imap_syntax.specs.declared.command.Command.{Command}
use Rattle.mailbox_rows.specs.ListedMessage.{ListedMessage}
use Rattle.merge_laws.specs.Orders.{IsIn}
use Rattle.session_view.specs.ViewState.{ViewState}
use Rattle.uid_projection.specs.Incarnations.{uidvalidity_of}
use Rattle.uid_projection.specs.Listing.{listing}

-- The input of a command with its tag, at a moment.
abbrev pub request : ℕ → List ℕ → Command → Input
request moment tag command = inputs.Command moment (record { tag = tag; command = command })

-- A tagged line with this code is among the answers.
abbrev pub HasCode : Code → List Answer → Type 0
HasCode code answers =
    (tag : List ℕ) × (word : CompletedWord) × IsIn (Completed tag (Some code) word) answers

-- Whether an operation appends a message to the mailbox.
abbrev pub is_append_to : List ℕ → Kind → Bool
is_append_to name (Append folder flags date text) = bytes_eq name folder
is_append_to name _ = false

-- The operations that append to the mailbox, in their order.
abbrev pub appends_among : List ℕ → List Op → List Op
appends_among name ops = filter (λ (o : Op). is_append_to name o.kind) ops

-- The message with this UID is the one that the operation appended.
pub record IsAddedRow (rows : List ListedMessage) (number : ℕ) (op : Op) : Type 0 where
  pub row : ListedMessage
  pub listed : IsIn row rows
  pub numbered : row.uid ≡ number
  pub appended : row.origin ≡ op.id

-- The operation appends a copy of the message with UID `source`, and the copy has UID `copy`.
pub record IsCopied (before after : List ListedMessage) (name : List ℕ) (source copy : ℕ) (op : Op)
    : Type 0 where
  pub message : ListedMessage
  pub listed : IsIn message before
  pub numbered : message.uid ≡ source
  pub bears : op.kind ≡ Append name message.flags message.date message.text
  pub added : IsAddedRow after copy op

-- Each source has its copy and its operation, at the same place.
abbrev pub AreCopied : List ListedMessage → List ListedMessage → List ℕ → List ℕ → List ℕ → List Op
    → Type 0
AreCopied before after name [] [] [] = Unit {0}
AreCopied before after name (source ∷ sources) (copy ∷ copies) (op ∷ ops) =
    IsCopied before after name source copy op × AreCopied before after name sources copies ops
AreCopied before after name _ _ _ = ⊥

-- COPYUID is right (RFC 9051, section 7.1): the mailbox has this UIDVALIDITY, and each message of
-- the view with a UID of the sources was appended to it as the message with the UID at the same
-- place among the copies.
pub record IsCopyUid (old new : NodeState) (view : ViewState) (name : List ℕ) (issued : List Op)
    (uidvalidity : ℕ) (sources copies : List ℕ) : Type 0 where
  pub under : uidvalidity_of new.start name new.applied ≡ Some uidvalidity
  pub copied : AreCopied (rows_for old.start old.applied view) (listing new.start name new.applied)
      name sources copies (appends_among name issued)

-- APPENDUID is right (RFC 9051, section 7.1): the mailbox has this UIDVALIDITY, and the one
-- operation that was issued appended the message with this UID.
pub record IsAppendUid (new : NodeState) (name : List ℕ) (issued : List Op)
    (uidvalidity number : ℕ) : Type 0 where
  pub under : uidvalidity_of new.start name new.applied ≡ Some uidvalidity
  pub op : Op
  pub only : issued ≡ op ∷ []
  pub added : IsAddedRow (listing new.start name new.applied) number op
