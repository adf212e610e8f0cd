-- The steps in which the code takes an item. `Handling` says what is done with one.

use Rattle.std.specs.Prelude.{◌≡◌, ◌⊎◌, ℕ, Bool, true, false, List, ◌++◌, Option, Some, None}
use Rattle.std.specs.Prelude.{[], if◌then◌else◌}
use Rattle.imap_answers.specs.AnswerText.{text_of_answer}
use Rattle.imap_answers.specs.declared.answer.Answer.TheVariants.{UntaggedOk}
use Rattle.imap_answers.specs.declared.codes.Notice.TheVariants.{Closed}
use Rattle.imap_connection.specs.declared.end_reason.Ended.{Ended}
use Rattle.imap_connection.specs.declared.end_reason.Ended.TheVariants.{Logout}
use Rattle.rev1_connection.specs.Handling.{IsBreak}
use Rattle.rev1_connection.specs.ShownReplies.{IsReplyShown}
use Rattle.rev1_connection.specs.declared.reply_writer.UnshownReply.{UnshownReply}
use Rattle.rev1_connection.specs.declared.session.FrontSession.{FrontSession}

-- What is shown of a reply that wasn't shown yet: all of it (`true`), or of some of its answers.
abbrev pub IsShownOf : Bool → UnshownReply → List ℕ → Type 0
IsShownOf whole unshown text =
    IsReplyShown whole unshown.mode unshown.manner unshown.tag unshown.reply text

-- Something is handled, and what is shown is added to the first text; or the last reply isn't shown
-- yet, and only what is shown before it is added.
abbrev pub Takes : {S : Type 0} → (Bool → List ℕ → S → FrontSession → Bool → Type 0)
    → Option UnshownReply → List ℕ → S → FrontSession → List ℕ → Type 0
Takes {S} handles None text new after longer =
    (given : List ℕ) × handles true given new after false × (longer ≡ text ++ given)
Takes {S} handles (Some unshown) text new after longer =
    (before : List ℕ)
    × (longer ≡ text ++ before)
    × ((whole : Bool) (given : List ℕ) → IsShownOf whole unshown given
    → handles whole (before ++ given) new after unshown.leaves)

-- Something is handled whose reply isn't shown yet.
abbrev pub Gives : {S : Type 0} → (Bool → List ℕ → S → FrontSession → Bool → Type 0) → S
    → FrontSession → Option UnshownReply → Type 0
Gives {S} handles new after None = ⊥
Gives {S} handles new after (Some unshown) =
    (whole : Bool) (given : List ℕ) → IsShownOf whole unshown given
    → handles whole given new after unshown.leaves

-- How the conversation ends at a reply: after a LOGOUT that was answered OK; or after some of the
-- answers.
abbrev pub EndsAtReply : Ended → UnshownReply → List ℕ → Type 0
EndsAtReply ended unshown text =
    ((ended ≡ Logout) × (unshown.leaves ≡ true) × IsShownOf true unshown text)
    ⊎ (IsBreak ended × IsShownOf false unshown text)

-- The line that tells that a mailbox was left, if one was.
abbrev pub closed_line : Bool → List ℕ
closed_line closed = if closed then text_of_answer (UntaggedOk Closed) else []
