-- What RENAME does to mailboxes (RFC 3501, section 6.3.5), as calls of the session that carries it
-- out.

use Rattle.std.specs.Prelude.{◌≡◌, ◌⊎◌, ℕ, Bool, true, false, List, [], ◌∷◌, ◌++◌, Some}
use Rattle.std.specs.Prelude.{slice_get}
use Rattle.imap_types.specs.Names.{is_inbox}
use Rattle.imap_types.specs.declared.sequence_set.SequenceRange.{SequenceRange}
use Rattle.imap_types.specs.declared.sequence_set.SequenceBound.TheVariants.{Number, Greatest}
use Rattle.imap_syntax.specs.declared.command.Command.{Command}
use Rattle.imap_syntax.specs.declared.command.Command.TheVariants as commands
use Rattle.imap_node.specs.Replies.{is_done}
use Rattle.imap_node.specs.declared.reply.Reply.{Reply}
use Rattle.replica_lock.specs.declared.outcome.Outcome.{Outcome}
use Rattle.replica_lock.specs.declared.outcome.Outcome.TheVariants.{Replied}
use Rattle.rev1_front.specs.declared.rename_plan.RenamedMailbox.{RenamedMailbox}
use Rattle.rev1_rename.specs.Exchanges.{Exchange, has_messages, is_carried_out}

-- ---- what is given for one mailbox

-- All messages, by their UIDs.
abbrev pub all_messages : List SequenceRange
all_messages = record { first = Number 1; last = Greatest } ∷ []

-- The MOVE of all messages to a mailbox with this name.
abbrev pub move_all_to : List ℕ → Command
move_all_to name =
    commands.Move (record { by_uid = true; messages = all_messages; name = name })

-- A command that was carried out, with its reply.
abbrev pub done : Command → Reply → Exchange
done command reply = record { command = command; outcome = Replied reply }

-- The calls empty the old mailbox: it is selected, all its messages are moved to the new one if it
-- has any, and it is no longer selected. All that was carried out.
abbrev pub IsEmptying : RenamedMailbox → List Exchange → Type 0
IsEmptying mailbox calls =
    (selected left : Reply)
    × (is_done selected ≡ true)
    × (is_done left ≡ true)
    × (((has_messages selected ≡ false)
    × (calls
    ≡ done (commands.Select mailbox.from false) selected ∷ done commands.Unselect left ∷ []))
    ⊎ ((moved : Reply)
    × (is_done moved ≡ true)
    × (calls
    ≡ done (commands.Select mailbox.from false) selected
    ∷ done (move_all_to mailbox.to) moved ∷ done commands.Unselect left ∷ [])))

-- The calls delete the old mailbox; INBOX stays.
abbrev pub IsDeletion : RenamedMailbox → List Exchange → Type 0
IsDeletion mailbox calls =
    ((is_inbox mailbox.from ≡ true) × (calls ≡ []))
    ⊎ ((deleted : Reply)
    × (is_inbox mailbox.from ≡ false)
    × (is_done deleted ≡ true)
    × (calls ≡ done (commands.Delete mailbox.from) deleted ∷ []))

-- The calls empty the old mailbox, and then delete it.
abbrev pub IsRenaming : RenamedMailbox → List Exchange → Type 0
IsRenaming mailbox calls =
    (emptying deletion : List Exchange)
    × IsEmptying mailbox emptying
    × IsDeletion mailbox deletion
    × (calls ≡ emptying ++ deletion)

-- The calls are at most one, with a DELETE of a mailbox with this name.
abbrev pub IsAtMostDelete : List ℕ → List Exchange → Type 0
IsAtMostDelete name calls =
    (calls ≡ [])
    ⊎ ((outcome : Outcome)
    × (calls ≡ record { command = commands.Delete name; outcome = outcome } ∷ []))

-- ---- what is given for several

-- The calls create the new mailboxes, one for each, in their order.
abbrev pub AreCreations : List RenamedMailbox → List Exchange → Type 0
AreCreations [] [] = Unit {0}
AreCreations (mailbox ∷ mailboxes) (call ∷ calls) =
    (call.command ≡ commands.Create mailbox.to)
    × (is_carried_out call.outcome ≡ true)
    × AreCreations mailboxes calls
AreCreations _ _ = ⊥

-- The calls rename these mailboxes, each of them in its turn, in their order.
abbrev pub AreRenamings : List RenamedMailbox → List Exchange → Type 0
AreRenamings [] calls = calls ≡ []
AreRenamings (mailbox ∷ mailboxes) calls =
    (first rest : List Exchange)
    × IsRenaming mailbox first
    × AreRenamings mailboxes rest
    × (calls ≡ first ++ rest)

-- ---- when a mailbox may be deleted

abbrev pub is_delete : Command → Bool
is_delete (commands.Delete name) = true
is_delete _ = false

abbrev pub is_move : Command → Bool
is_move (commands.Move transfer) = true
is_move _ = false

-- No call is a MOVE.
abbrev pub MoveNothing : List Exchange → Type 0
MoveNothing [] = Unit {0}
MoveNothing (call ∷ calls) = (is_move call.command ≡ false) × MoveNothing calls

-- No call is a DELETE.
abbrev pub DeleteNothing : List Exchange → Type 0
DeleteNothing [] = Unit {0}
DeleteNothing (call ∷ calls) = (is_delete call.command ≡ false) × DeleteNothing calls

-- A mailbox is among those that are renamed.
abbrev pub IsAmong : RenamedMailbox → List RenamedMailbox → Type 0
IsAmong mailbox mailboxes = (i : ℕ) × (slice_get mailboxes i ≡ Some mailbox)

-- The calls before end with those that empty an old mailbox with this name.
abbrev pub WasEmptied : List RenamedMailbox → List Exchange → List ℕ → Type 0
WasEmptied mailboxes before name =
    (mailbox : RenamedMailbox)
    × IsAmong mailbox mailboxes
    × (mailbox.from ≡ name)
    × (earlier emptying : List Exchange)
    × (before ≡ earlier ++ emptying)
    × IsEmptying mailbox emptying

-- Among the calls before is one that created a mailbox with this name, and since then nothing was
-- moved.
abbrev pub IsNew : List Exchange → List ℕ → Type 0
IsNew before name =
    (earlier since : List Exchange)
    × (outcome : Outcome)
    × (is_carried_out outcome ≡ true)
    × (before ≡ earlier ++ record { command = commands.Create name; outcome = outcome } ∷ since)
    × MoveNothing since

-- After the calls before, the command deletes no message: it is no DELETE, or one of a mailbox that
-- was just emptied, or of one that is new.
abbrev pub DeletesNoMessage : List RenamedMailbox → List Exchange → Command → Type 0
DeletesNoMessage mailboxes before command =
    (name : List ℕ) → command ≡ commands.Delete name
    → WasEmptied mailboxes before name ⊎ IsNew before name

-- No call deletes a message, after the calls before.
abbrev pub DeleteNoMessages : List RenamedMailbox → List Exchange → List Exchange → Type 0
DeleteNoMessages mailboxes before [] = Unit {0}
DeleteNoMessages mailboxes before (call ∷ calls) =
    DeletesNoMessage mailboxes before call.command
    × DeleteNoMessages mailboxes (before ++ call ∷ []) calls

-- Each call is a DELETE of one of the new mailboxes.
abbrev pub AreDeletionsOf : List RenamedMailbox → List Exchange → Type 0
AreDeletionsOf mailboxes [] = Unit {0}
AreDeletionsOf mailboxes (call ∷ calls) =
    (mailbox : RenamedMailbox)
    × IsAmong mailbox mailboxes
    × (call.command ≡ commands.Delete mailbox.to)
    × AreDeletionsOf mailboxes calls
