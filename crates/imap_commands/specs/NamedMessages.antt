-- The messages that a command names (RFC 9051, section 9, sequence-set).

use Rattle.std.specs.Prelude.{◌≡◌, ℕ, Bool, List, []}
use Rattle.imap_types.specs.declared.sequence_set.SequenceRange.{SequenceRange}
use Rattle.session_view.specs.Sets.{numbers_in_set}
use Rattle.session_view.specs.declared.view_entry.ViewEntry.{ViewEntry}
use Rattle.imap_commands.specs.Arguments.{OpenMailbox}
use Rattle.imap_commands.specs.StoreCommand.{taken_messages}
use Rattle.imap_commands.specs.MailStates.{MailState, open_mailbox}
use Rattle.imap_commands.specs.declared.session.State.{State}
use Rattle.imap_commands.specs.declared.session.State.TheVariants.{Selected}
use Rattle.session_view.specs.ViewState.{ViewState}
use Rattle.imap_syntax.specs.declared.arguments.Store.{Store}

-- The messages that a command names before it is carried out: their numbers, and those of the
-- messages among them that STORE may change.
pub record NamedMessages : Type 0 where
  pub numbers : List ℕ
  pub taken : List ℕ

-- No messages.
abbrev pub no_messages_named : NamedMessages
no_messages_named = record { numbers = []; taken = [] }

-- The messages of the view that a set names, for FETCH, COPY, MOVE and UID EXPUNGE.
abbrev pub messages_named_by : Bool → List SequenceRange → List ViewEntry → NamedMessages
messages_named_by by_uid set view = record { numbers = numbers_in_set by_uid set view; taken = [] }

-- These are the messages that some set names in the view.
abbrev pub AreNamedBySome : List ViewEntry → NamedMessages → Type 0
AreNamedBySome view named =
    (by_uid : Bool) × (set : List SequenceRange) × (named ≡ messages_named_by by_uid set view)

-- The messages of the view that a STORE names, and those that it may change.
abbrev pub messages_stored_by : OpenMailbox → Store → NamedMessages
messages_stored_by mailbox request =
    let numbers = numbers_in_set request.by_uid request.messages mailbox.view in
    record {
      numbers = numbers;
      taken = taken_messages mailbox.rows mailbox.view request.unchanged_since numbers;
    }

-- ---- in a session

-- The messages named in the selected mailbox; none if no mailbox is selected.
abbrev pub messages_named_if_selected : State → (ViewState → Bool → NamedMessages) → NamedMessages
messages_named_if_selected (Selected view read_only) find = find view read_only
messages_named_if_selected _ find = no_messages_named

-- The messages of the session's view that a set names, for FETCH, COPY, MOVE and UID EXPUNGE.
abbrev pub messages_named_in : State → Bool → List SequenceRange → NamedMessages
messages_named_in state by_uid set =
    messages_named_if_selected state (λ view read_only. messages_named_by by_uid set view.entries)

-- The messages of the session's view that a STORE names, and those that it may change.
abbrev pub messages_stored_in : MailState → State → Store → NamedMessages
messages_stored_in mail state request =
    messages_named_if_selected state
    (λ view read_only. messages_stored_by (open_mailbox mail view read_only) request)
