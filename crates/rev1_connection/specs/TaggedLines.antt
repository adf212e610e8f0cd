-- The tagged line that a command gets (RFC 3501, section 2.2.2).

use Rattle.std.specs.Prelude.{◌≡◌, ◌⊎◌, ℕ, Bool, true, false, List, [], ◌∷◌, ◌++◌, Option, Some}
use Rattle.std.specs.Prelude.{None, Result, Ok}
use Rattle.std.specs.List.{concat}
use Rattle.imap_answers.specs.declared.answer.Answer.{Answer}
use Rattle.imap_answers.specs.declared.answer.Answer.TheVariants.{Completed}
use Rattle.imap_answers.specs.declared.codes.Code.{Code}
use Rattle.imap_answers.specs.declared.fixed_words.CompletedWord.{CompletedWord}
use Rattle.imap_syntax.specs.declared.command.Tagged.{Tagged}
use Rattle.imap_node.specs.Commands.{is_idle}
use Rattle.imap_node.specs.declared.reply.Reply.{Reply}
use Rattle.imap_node.specs.declared.reply.Reply.TheVariants as replies
use Rattle.imap_connection.specs.PortCalls.{PortCall}
use Rattle.imap_connection.specs.PortCalls as asked
use Rattle.imap_connection.specs.declared.fault.PortFault.{PortFault}
use Rattle.rev1_front.specs.Tags.{HasTagOf, is_untagged, tag_of_answer}
use Rattle.rev1_front.specs.declared.session.Awaited.{Awaited}
use Rattle.rev1_front.specs.declared.session.Awaited.TheVariants as awaited
use Rattle.rev1_connection.specs.declared.session.FrontSession.{FrontSession}

-- ---- Replies of a port.

-- None of these answers is a tagged line.
abbrev pub AreUntagged : List Answer → Type 0
AreUntagged [] = Unit {0}
AreUntagged (answer ∷ given) = (tag_of_answer answer ≡ None) × AreUntagged given

-- Answers to a command with this tag: the last is the only tagged line, and has the tag; or none is
-- one, if the command is IDLE, whose tagged line comes when it ends.
abbrev pub AreAnswersTo : Bool → List ℕ → List Answer → Type 0
AreAnswersTo true tag given = AreUntagged given
AreAnswersTo false tag given =
    (front : List Answer) × (code : Option Code) × (word : CompletedWord)
    × AreUntagged front
    × (given ≡ front ++ Completed tag code word ∷ [])

-- A reply to a command.
abbrev pub IsReplyTo : Tagged → Reply → Type 0
IsReplyTo tagged (replies.Done given silent issued) =
    AreAnswersTo (is_idle tagged.command) tagged.tag given
IsReplyTo tagged (replies.Refused why closed) = Unit {0}

-- A port gives such replies to all commands, as that of a node does.
abbrev pub RepliesToCommands : {S : Type 0} → (S → PortCall → Result Reply PortFault → S → Type 0)
    → Type 0
RepliesToCommands {S} steps =
    (old new : S) (tagged : Tagged) (reply : Reply)
    → steps old (asked.Command tagged) (Ok reply) new
    → IsReplyTo tagged reply

-- ---- What is shown.

-- Texts without a tag.
abbrev pub AreUntaggedTexts : List (List ℕ) → Type 0
AreUntaggedTexts [] = Unit {0}
AreUntaggedTexts (text ∷ texts) = (is_untagged text ≡ true) × AreUntaggedTexts texts

-- Lines without a tag.
abbrev pub IsUntaggedText : List ℕ → Type 0
IsUntaggedText text = (texts : List (List ℕ)) × AreUntaggedTexts texts × (text ≡ concat texts)

-- Lines without a tag, and then one with this tag.
abbrev pub EndsTagged : List ℕ → List ℕ → Type 0
EndsTagged tag text =
    (texts : List (List ℕ)) × (last : List ℕ)
    × AreUntaggedTexts texts
    × HasTagOf (Some tag) last
    × (text ≡ concat texts ++ last)

-- The session awaits more of the command with this tag: a line of IDLE, or the response to
-- AUTHENTICATE.
abbrev pub AwaitsMore : List ℕ → Awaited → Type 0
AwaitsMore tag it = (it ≡ awaited.Line tag) ⊎ (it ≡ awaited.Response tag)

-- The command with this tag gets its tagged line, last; or none yet, since the session awaits more.
abbrev pub IsCompletedBy : List ℕ → List ℕ → FrontSession → Type 0
IsCompletedBy tag text after =
    EndsTagged tag text ⊎ (IsUntaggedText text × AwaitsMore tag after.awaited)
