-- The effect of an input that is carried out, apart from its operations; its answers, and the state
-- after its sync.

use Rattle.std.specs.Prelude.{◌≡◌, Bool, true, false, List, [], ◌++◌, Option, Some, None}
use Rattle.std.specs.List.{list_any}
use Rattle.std.specs.Option.{unwrap_or}
use Rattle.crdt_ops.specs.declared.op.Op.{Op}
use Rattle.imap_answers.specs.declared.answer.Answer.{Answer}
use Rattle.imap_answers.specs.declared.answer.Answer.TheVariants.{Expunge, Fetch}
use Rattle.imap_commands.specs.MailStates as mails
use Rattle.imap_commands.specs.declared.session.State.{State}
use Rattle.imap_commands.specs.declared.session.State.TheVariants.{Selected}
use Rattle.mailbox_rows.specs.ListedMessage.{ListedMessage}
use Rattle.session_view.specs.Replay.{view_after_reply}
use Rattle.session_view.specs.Sync.{sync_answers, view_after_sync}
use Rattle.session_view.specs.declared.view_entry.ViewEntry.{ViewEntry}
use Rattle.session_view.specs.declared.view_entry.SyncKind.{SyncKind}
use Rattle.session_view.specs.declared.reply_replay.SilentFlags.{SilentFlags}
use Rattle.imap_node.specs.Mailboxes.{mail_state, rows_for}
use Rattle.uid_projection.specs.declared.first_numbers.Counters.{Counters}

-- The messages of a view after a sync, and what the sync sends; nothing if there is no sync.
abbrev pub entries_after_sync : Option SyncKind → List ListedMessage → List ViewEntry
    → List ViewEntry
entries_after_sync None rows view = view
entries_after_sync (Some kind) rows view = view_after_sync kind rows view

abbrev pub answers_of_sync : Option SyncKind → Bool → List ListedMessage → List ViewEntry
    → List Answer
answers_of_sync None modseq rows view = []
answers_of_sync (Some kind) modseq rows view = sync_answers kind modseq rows view

-- The effect of an input that is carried out, apart from its operations: the flags that it sets
-- silently, its own answers, the sync after them with or without mod-sequences, the state before
-- all these are replayed, and the answers sent last.
pub record InputEffect : Type 0 where
  pub silent : List SilentFlags
  pub own : List Answer
  pub sync : Option SyncKind
  pub modseq : Bool
  pub state : State
  pub tail : List Answer

-- An effect in which a state that doesn't change is left out.
pub record EffectDraft : Type 0 where
  pub silent : List SilentFlags
  pub own : List Answer
  pub sync : Option SyncKind
  pub modseq : Bool
  pub moved : Option State
  pub tail : List Answer

abbrev pub state_or : State → Option State → State
state_or state moved = unwrap_or moved state

abbrev pub effect_from : State → EffectDraft → InputEffect
effect_from state draft =
    record {
      silent = draft.silent;
      own = draft.own;
      sync = draft.sync;
      modseq = draft.modseq;
      state = state_or state draft.moved;
      tail = draft.tail;
    }

-- The answers sent after a command's own, and the state after them.
pub record SyncResult : Type 0 where
  pub answers : List Answer
  pub state : State

abbrev pub sync_result : Counters → List Op → Option SyncKind → Bool → State → List SilentFlags
    → List Answer → SyncResult
sync_result start ops sync modseq (Selected view read_only) silent own =
    let rows = rows_for start ops view in
    let new_view = view_after_reply rows view.entries silent own in
    record {
      answers = answers_of_sync sync modseq rows new_view;
      state = Selected (record view { entries = entries_after_sync sync rows new_view }) read_only;
    }
sync_result start ops sync modseq state silent own = record { answers = []; state = state }

abbrev pub sync_result_of : Counters → List Op → InputEffect → SyncResult
sync_result_of start ops effect =
    sync_result start ops effect.sync effect.modseq effect.state effect.silent effect.own

-- All answers: the input's own, the sync's, and the last ones.
abbrev pub answers_of_effect : Counters → List Op → InputEffect → List Answer
answers_of_effect start ops effect =
    effect.own ++ ((sync_result_of start ops effect).answers ++ effect.tail)

-- The kind of a sync, and what precedes the sync: flags that are set silently, and a command's own
-- answers.
pub record SyncInput : Type 0 where
  pub silent : List SilentFlags
  pub own : List Answer
  pub sync : Option SyncKind
  pub modseq : Bool

abbrev pub sync_result_after : Counters → List Op → State → SyncInput → SyncResult
sync_result_after start ops state front =
    sync_result start ops front.sync front.modseq state front.silent front.own

-- The answer expunges a message, or reports a message's items.
abbrev pub is_altering : Answer → Bool
is_altering (Expunge n) = true
is_altering (Fetch n items) = true
is_altering _ = false

-- The view was empty, there is no sync, and the answers in `front` show messages as the listing has
-- them.
pub record IsFirstSight (entries : List ViewEntry) (front : SyncInput) : Type 0 where
  pub nothing : entries ≡ []
  pub unsynced : front.sync ≡ None
  pub silent : front.silent ≡ []
  pub own : list_any is_altering front.own ≡ false

-- The listing made for a state, if one was made, is the listing of the state's mailbox after these
-- operations.
abbrev pub IsListingFor : Counters → List Op → State → Option (List ListedMessage) → Type 0
IsListingFor start ops state made = mails.IsListingFor (mail_state start ops) state made
