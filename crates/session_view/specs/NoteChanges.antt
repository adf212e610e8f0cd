-- Notes of what differs between a view and its mailbox's listing, and the plan of a sync that looks
-- only at noted messages (RFC 9051, section 7.5).

use Rattle.std.specs.Prelude.{◌≡◌, ◌⊎◌, ℕ, ◌≤◌, ◌==◌, ◌-◌, Bool, true, false, List, [], ◌∷◌, ◌++◌}
use Rattle.std.specs.Prelude.{map, length, Option, Some, None, if◌then◌else◌}
use Rattle.std.specs.List.{flat_map, list_any}
use Rattle.imap_answers.specs.declared.answer.Answer.{Answer}
use Rattle.imap_answers.specs.declared.answer.Answer.TheVariants.{Exists, Expunge, Fetch}
use Rattle.imap_types.specs.declared.flags.Flags.{Flags}
use Rattle.mailbox_rows.specs.ListedMessage.{ListedMessage}
use Rattle.session_view.specs.declared.notes.Note.{Note}
use Rattle.session_view.specs.declared.notes.Note.TheVariants.{New, Gone, Changed, Ended}
use Rattle.session_view.specs.declared.view_entry.ViewEntry.{ViewEntry}
use Rattle.session_view.specs.declared.view_entry.SyncKind.{SyncKind}
use Rattle.session_view.specs.declared.view_entry.SyncKind.TheVariants.{Full, Partial}
use Rattle.session_view.specs.declared.reply_replay.SilentFlags.{SilentFlags}
use Rattle.session_view.specs.declared.sync_plan.Patch.{Patch}
use Rattle.session_view.specs.declared.sync_plan.SyncPlan.{SyncPlan}
use Rattle.session_view.specs.Replay.{after_silent, with_flags_at, without_message}
use Rattle.session_view.specs.Sync.{is_listed, sync_answers, view_after_sync}
use Rattle.session_view.specs.Views.{AreRising, entries_of}

-- The flags that the view shows for the message with this UID, if the view has one.
abbrev pub flags_at : ℕ → List ViewEntry → Option Flags
flags_at uid [] = None
flags_at uid (e ∷ es) = if e.uid == uid then Some e.flags else flags_at uid es

-- The note names the message with this UID. The end of an incarnation names all of its messages.
abbrev pub note_names : ℕ → Note → Bool
note_names uid (New u) = u == uid
note_names uid (Gone u) = u == uid
note_names uid (Changed u) = u == uid
note_names uid Ended = true

abbrev pub is_noted : List Note → ℕ → Bool
is_noted notes uid = list_any (note_names uid) notes

-- The notes name every row that differs between this view and this listing: for each UID, both show
-- the same, or a note names it.
abbrev pub NoteAllChanges : List Note → List ListedMessage → List ViewEntry → Type 0
NoteAllChanges notes rows view =
    (uid : ℕ) → (flags_at uid view ≡ flags_at uid (entries_of rows)) ⊎ (is_noted notes uid ≡ true)

-- The notes that a partial sync leaves: those of the messages that are gone.
abbrev pub gone_notes : List ListedMessage → List ViewEntry → List Note
gone_notes rows [] = []
gone_notes rows (e ∷ es) = (if is_listed rows e then [] else Gone e.uid ∷ []) ++ gone_notes rows es

abbrev pub notes_left_by_sync : SyncKind → List ListedMessage → List ViewEntry → List Note
notes_left_by_sync Full rows view = []
notes_left_by_sync Partial rows view = gone_notes rows view

-- The note is that of an incarnation's end, which names no message by its UID.
abbrev pub is_end : Note → Bool
is_end Ended = true
is_end _ = false

abbrev pub uid_in : Note → List ℕ
uid_in (New u) = u ∷ []
uid_in (Gone u) = u ∷ []
uid_in (Changed u) = u ∷ []
uid_in Ended = []

abbrev pub uids_in : List Note → List ℕ
uids_in notes = flat_map uid_in notes

abbrev pub uids_of : List ViewEntry → List ℕ
uids_of view = map (λ e. e.uid) view

-- The UIDs don't descend, from `low` on.
abbrev pub AreAscending : ℕ → List ℕ → Type 0
AreAscending low [] = Unit {0}
AreAscending low (u ∷ us) = (low ≤ u) × AreAscending u us

-- These messages, once those with these numbers are removed, the last number first.
abbrev pub without_from : List ℕ → List ViewEntry → List ViewEntry
without_from [] view = view
without_from (n ∷ ns) view = without_message (without_from ns view) n

-- EXPUNGE of these numbers, the last one first.
abbrev pub expunges_of_numbers : List ℕ → List Answer
expunges_of_numbers [] = []
expunges_of_numbers (n ∷ ns) = expunges_of_numbers ns ++ Expunge n ∷ []

-- The flags that a FETCH reports, with the message's number.
abbrev pub flags_by : ℕ → Option Flags → List SilentFlags
flags_by k None = []
flags_by k (Some flags) = (record { number = k; flags = flags }) ∷ []

abbrev pub fetched_flags : Answer → List SilentFlags
fetched_flags (Fetch k items) = flags_by k items.flags
fetched_flags _ = []

abbrev pub all_fetched_flags : List Answer → List SilentFlags
all_fetched_flags answers = flat_map fetched_flags answers

-- The view's messages without those that are gone, with the new ones, and with these flags.
abbrev pub patched_entries : List ViewEntry → List ℕ → List ViewEntry → List SilentFlags
    → List ViewEntry
patched_entries view gone arrivals flags = after_silent (without_from gone view ++ arrivals) flags

-- The note of the message with this number.
abbrev pub silent_notes : List ViewEntry → ℕ → List Note
silent_notes [] k = []
silent_notes (e ∷ es) k = if k == 1 then Changed e.uid ∷ [] else silent_notes es (k - 1)

abbrev pub named_by_silent : ℕ → List ViewEntry → ℕ → Bool
named_by_silent uid [] k = false
named_by_silent uid (e ∷ es) k = if k == 1 then e.uid == uid else named_by_silent uid es (k - 1)

-- There is room for the new messages after the view's, if there are any.
abbrev pub HasRoomForArrivals : List ViewEntry → Patch → Type 0
HasRoomForArrivals view patch =
    (patch.arrivals.items ≡ [])
    ⊎ ((length view ≤ patch.place.most) × (length patch.arrivals.items ≤ patch.place.room))

-- The flags belong to messages with numbers up to this one.
abbrev pub AreUpTo : ℕ → List SilentFlags → Type 0
AreUpTo last [] = Unit {0}
AreUpTo last (s ∷ silents) = (s.number ≤ last) × AreUpTo last silents

-- The notes of the messages whose flags are set.
abbrev pub all_silent_notes : List ViewEntry → List SilentFlags → List Note
all_silent_notes view silents = flat_map (λ s. silent_notes view s.number) silents

-- These messages, once these flags are restored, the last of them first.
abbrev pub with_flags_restored : List ViewEntry → List SilentFlags → List ViewEntry
with_flags_restored view [] = view
with_flags_restored view (s ∷ silents) =
    with_flags_at (with_flags_restored view silents) s.number s.flags

-- The plan is that of a sync of this view with this listing: its answers, its changes to the view,
-- with room for them, and the notes of what it leaves unsent.
pub record IsSyncPlan (kind : SyncKind) (modseq : Bool) (rows : List ListedMessage)
    (view : List ViewEntry) (planned : SyncPlan) : Type 0 where
  pub answers : planned.answers.items ≡ sync_answers kind modseq rows view
  pub patch : patched_entries view planned.patch.gone.items planned.patch.arrivals.items
      planned.patch.flags.items ≡ view_after_sync kind rows view
  pub place : HasRoomForArrivals view planned.patch
  pub rising : AreRising 1 (view_after_sync kind rows view)
  pub left : planned.left.items ≡ notes_left_by_sync kind rows view
  pub whole : planned.whole ≡ true
      → NoteAllChanges planned.left.items rows (view_after_sync kind rows view)

-- The answer shifts messages' numbers or shows new messages.
abbrev pub is_shifting : Answer → Bool
is_shifting (Expunge n) = true
is_shifting (Exists n) = true
is_shifting _ = false
