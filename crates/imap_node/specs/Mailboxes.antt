-- What commands read of a mailbox after a list of operations: its counters, its rows as a view has
-- them, a COPY's destination.

use Rattle.std.specs.Prelude.{ℕ, Bool, List}
use Rattle.std.specs.Option.{unwrap_or}
use Rattle.crdt_ops.specs.declared.op.Op.{Op}
use Rattle.crdt_ops.specs.Sets.{delete_set_of, folders_of, subscribed_names_of}
use Rattle.crdt_ops.specs.Sets.{subscription_tags_of}
use Rattle.imap_commands.specs.Arguments.{CopyTarget, OpenMailbox}
use Rattle.imap_commands.specs.MailStates.{MailState, are_some}
use Rattle.imap_query.specs.declared.mailbox_status.MailboxCounters.{MailboxCounters}
use Rattle.mailbox_rows.specs.ListedMessage.{ListedMessage}
use Rattle.session_view.specs.ViewState.{ViewState, rows_under}
use Rattle.uid_projection.specs.declared.first_numbers.Counters.{Counters}
use Rattle.uid_projection.specs.Incarnations.{folder_exists, uidvalidity_of}
use Rattle.uid_projection.specs.UidsAndModSeqs.{highest_modseq_of, uidnext_of}
use Rattle.uid_projection.specs.Listing.{listing}

-- All that commands read of a replica after these operations.
abbrev pub mail_state : Counters → List Op → MailState
mail_state start ops =
    record {
      folders = folders_of ops;
      exists = λ name. folder_exists name ops;
      delete_set = λ name. delete_set_of ops name;
      subscribed_names = subscribed_names_of ops;
      subscription_tags = λ name. subscription_tags_of ops name;
      uidvalidity = λ name. uidvalidity_of start name ops;
      uidnext = λ name. uidnext_of start name ops;
      highest_modseq = λ name. highest_modseq_of name ops;
      listing = λ name. listing start name ops;
    }

-- The UIDVALIDITY of a mailbox that exists.
abbrev pub validity_of : Counters → List ℕ → List Op → ℕ
validity_of start name ops = unwrap_or (uidvalidity_of start name ops) 0

-- The counters of an existing mailbox, which SELECT and STATUS report.
abbrev pub counters_of : Counters → List ℕ → List Op → MailboxCounters
counters_of start name ops =
    record {
      uidnext = uidnext_of start name ops;
      uidvalidity = validity_of start name ops;
      highest_modseq = highest_modseq_of name ops;
    }

-- The rows of a view's mailbox, in the view's own incarnation; none if that has ended.
abbrev pub rows_for : Counters → List Op → ViewState → List ListedMessage
rows_for start ops view =
    rows_under view.uidvalidity (uidvalidity_of start view.name ops) (listing start view.name ops)

-- The mailbox of a session with this view.
abbrev pub mailbox_in : Counters → List Op → ViewState → Bool → OpenMailbox
mailbox_in start ops view read_only =
    record {
      name = view.name;
      rows = rows_for start ops view;
      view = view.entries;
      read_only = read_only;
    }

-- A COPY's destination, given the operations before the command and those with its own.
abbrev pub copy_target_in : Counters → List Op → List Op → List ℕ → CopyTarget
copy_target_in start before after name =
    record {
      uidvalidity = validity_of start name after;
      uidnext = uidnext_of start name before;
      rows = listing start name after;
    }

-- The name is subscribed to.
abbrev pub is_subscribed : List ℕ → List Op → Bool
is_subscribed name ops = are_some (subscription_tags_of ops name)
