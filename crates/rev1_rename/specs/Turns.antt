-- What a turn at the lock carries out of a RENAME.

use Rattle.std.specs.Prelude.{◌≡◌, ◌⊎◌, ℕ, ◌-◌, ◌≤◌, false, true, List, [], ◌∷◌, ◌++◌, codes, drop}
use Rattle.std.specs.Prelude.{length, take}
use Rattle.imap_node.specs.Replies.{is_done, reply_answers}
use Rattle.imap_node.specs.declared.reply.Reply.{Reply}
use Rattle.imap_syntax.specs.declared.command.Command.{Command}
use Rattle.imap_syntax.specs.declared.command.Command.TheVariants.{ListNames}
use Rattle.replica_lock.specs.Passes.{PassState}
use Rattle.rev1_front.specs.Renames.{IsRenamePlan}
use Rattle.rev1_front.specs.declared.rename_plan.RenamePlan.TheVariants.{Mailboxes}
use Rattle.rev1_front.specs.declared.rename_plan.RenamedMailbox.{RenamedMailbox}
use Rattle.rev1_rename.specs.Exchanges.{AreExchanges, Exchange, names_of_answers}
use Rattle.rev1_rename.specs.Steps.{AreCreations, AreRenamings, DeleteNoMessages, done}
use Rattle.rev1_rename.specs.declared.work.RenameWork.{RenameWork}

-- The LIST of all mailboxes.
abbrev pub list_all : Command
list_all =
    ListNames (record {
      subscribed_only = false;
      reference = [];
      pattern = codes "*";
      return_subscribed = false;
    })

-- The calls begin with a LIST, and these are the mailboxes that RENAME renames among those that its
-- reply names.
abbrev pub FindsMailboxes : RenameWork → RenameWork → List Exchange → Type 0
FindsMailboxes old new calls =
    (reply : Reply)
    × (rest : List Exchange)
    × (is_done reply ≡ true)
    × (calls ≡ done list_all reply ∷ rest)
    × IsRenamePlan old.from old.to (names_of_answers (reply_answers reply))
    (Mailboxes new.mailboxes)

-- The calls have these among them, one after another.
abbrev pub Have : List Exchange → List Exchange → Type 0
Have part calls = (before after : List Exchange) × (calls ≡ before ++ part ++ after)

-- The mailboxes from one place to before another.
abbrev pub between : ℕ → ℕ → List RenamedMailbox → List RenamedMailbox
between first last mailboxes = take (last - first) (drop first mailboxes)

-- The calls are a turn of a RENAME: the mailboxes were known, or are found in it; the new mailboxes
-- that are counted as created after it, and weren't before, are created in it; the same holds of
-- the old ones that are counted as renamed; and no message is deleted.
pub record IsTurn (old new : RenameWork) (calls : List Exchange) : Type 0 where
  pub names : (new.from ≡ old.from) × (new.to ≡ old.to)
  pub mailboxes : (new.mailboxes ≡ old.mailboxes)
      ⊎ ((old.mailboxes.items ≡ []) × FindsMailboxes old new calls)
  pub created : (creations : List Exchange)
      × AreCreations (between old.created new.created new.mailboxes.items) creations
      × Have creations calls
  pub renamed : (renamings : List Exchange)
      × AreRenamings (between old.renamed new.renamed new.mailboxes.items) renamings
      × Have renamings calls
  pub safe : DeleteNoMessages new.mailboxes.items [] calls

-- A RENAME from this name to this one, of which nothing is carried out.
abbrev pub IsBegun : List ℕ → List ℕ → RenameWork → Type 0
IsBegun from to work =
    (work.from ≡ from)
    × (work.to ≡ to)
    × (work.mailboxes.items ≡ [])
    × (work.created ≡ 0)
    × (work.renamed ≡ 0)

-- All new mailboxes are created, and all old ones renamed.
abbrev pub IsWhole : RenameWork → Type 0
IsWhole work =
    (length work.mailboxes.items ≤ work.created) × (length work.mailboxes.items ≤ work.renamed)

-- A pass carried out turns of a RENAME, one after another.
abbrev pub AreTurns : RenameWork → PassState → List (List Exchange) → RenameWork → PassState
    → Type 0
AreTurns old p [] new q = (new ≡ old) × (q ≡ p)
AreTurns old p (calls ∷ turns) new q =
    (work : RenameWork)
    × (r : PassState)
    × AreExchanges p calls r
    × IsTurn old work calls
    × AreTurns work r turns new q
