-- What commands read of a replica: its mailboxes and subscriptions at one moment.

use Rattle.std.specs.Prelude.{◌≡◌, ℕ, Bool, true, false, List, [], ◌∷◌, Option, Some}
use Rattle.std.specs.Option.{unwrap_or}
use Rattle.imap_commands.specs.Arguments.{CopyTarget, OpenMailbox}
use Rattle.imap_commands.specs.declared.session.State.{State}
use Rattle.imap_commands.specs.declared.session.State.TheVariants.{Selected}
use Rattle.imap_query.specs.declared.mailbox_status.MailboxCounters.{MailboxCounters}
use Rattle.mailbox_rows.specs.ListedMessage.{ListedMessage}
use Rattle.session_view.specs.ViewState.{ViewState, rows_under}
use Rattle.tags_clocks.specs.declared.id.OpId.{OpId}

-- What commands read of a replica at one moment: the names of its mailboxes, and whether it has one
-- of a given name; the ids of a mailbox's present tags; the subscribed names, and the ids of a
-- name's present subscription tags; and of each mailbox its UIDVALIDITY, if it exists, its UIDNEXT,
-- its HIGHESTMODSEQ and its listing.
pub record MailState : Type 0 where
  pub folders : List (List ℕ)
  pub exists : List ℕ → Bool
  pub delete_set : List ℕ → List OpId
  pub subscribed_names : List (List ℕ)
  pub subscription_tags : List ℕ → List OpId
  pub uidvalidity : List ℕ → Option ℕ
  pub uidnext : List ℕ → ℕ
  pub highest_modseq : List ℕ → ℕ
  pub listing : List ℕ → List ListedMessage

-- The UIDVALIDITY of a mailbox that exists.
abbrev pub validity_in : MailState → List ℕ → ℕ
validity_in mail name = unwrap_or (mail.uidvalidity name) 0

-- The counters of an existing mailbox, which SELECT and STATUS report.
abbrev pub counters_in : MailState → List ℕ → MailboxCounters
counters_in mail name =
    record {
      uidnext = mail.uidnext name;
      uidvalidity = validity_in mail name;
      highest_modseq = mail.highest_modseq name;
    }

-- The rows of a view's mailbox, in the view's own incarnation; none if that has ended.
abbrev pub rows_in : MailState → ViewState → List ListedMessage
rows_in mail view =
    rows_under view.uidvalidity (mail.uidvalidity view.name) (mail.listing view.name)

-- The mailbox of a session with this view.
abbrev pub open_mailbox : MailState → ViewState → Bool → OpenMailbox
open_mailbox mail view read_only =
    record {
      name = view.name;
      rows = rows_in mail view;
      view = view.entries;
      read_only = read_only;
    }

-- A COPY's destination, given the replica before the command and after it.
abbrev pub copy_target : MailState → MailState → List ℕ → CopyTarget
copy_target before after name =
    record {
      uidvalidity = validity_in after name;
      uidnext = before.uidnext name;
      rows = after.listing name;
    }

-- The list has an id.
abbrev pub are_some : List OpId → Bool
are_some [] = false
are_some (id ∷ ids) = true

-- The name is subscribed to.
abbrev pub is_subscribed_in : MailState → List ℕ → Bool
is_subscribed_in mail name = are_some (mail.subscription_tags name)

-- The listing made for a state, if one was made, is the listing of the state's mailbox.
abbrev pub IsListingFor : MailState → State → Option (List ListedMessage) → Type 0
IsListingFor mail (Selected view read_only) (Some rows) = rows ≡ rows_in mail view
IsListingFor mail state made = Unit {0}
