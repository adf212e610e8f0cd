-- Brief commands, which are given to a port in batches: the answers to them, and how a conversation
-- ends at one of them.

use Rattle.std.specs.Prelude.{◌≡◌, ◌⊎◌, ℕ, Bool, List, [], ◌∷◌, ◌++◌, map, None}
use Rattle.std.specs.Prelude.{◌<◌, Result, Ok, Err, length, take, drop}
use Rattle.std.specs.List.{list_all}
use Rattle.imap_answers.specs.declared.answer.Answer.{Answer}
use Rattle.imap_commands.specs.Commands.{is_brief}
use Rattle.imap_lex.specs.declared.item.Item.{Item}
use Rattle.imap_node.specs.declared.reply.Reply.{Reply}
use Rattle.imap_syntax.specs.declared.command.Tagged.{Tagged}
use Rattle.imap_connection.specs.PortCalls.{PortCall}
use Rattle.imap_connection.specs.PortCalls as asked
use Rattle.imap_connection.specs.Conversation.{IsPrefixOf}
use Rattle.imap_connection.specs.EndReasons.{end_reason_of}
use Rattle.imap_connection.specs.RequestSteps.{IsRequest}
use Rattle.imap_connection.specs.Replies.{answers_of}
use Rattle.imap_connection.specs.declared.end_reason.Ended.{Ended}
use Rattle.imap_connection.specs.declared.end_reason.Ended.TheVariants.{NoMemory}
use Rattle.imap_connection.specs.declared.fault.PortFault.{PortFault}
use Rattle.imap_connection.specs.declared.request.Request.TheVariants as requests

abbrev pub are_brief : List Tagged → Bool
are_brief all = list_all (λ (tagged : Tagged). is_brief tagged.command) all

abbrev pub tags_of : List Tagged → List (List ℕ)
tags_of all = map (λ (tagged : Tagged). tagged.tag) all

-- The answers to commands with these tags, up to the first without a reply.
abbrev pub answers_by : List (List ℕ) → List Reply → List Answer
answers_by (tag ∷ tags) (reply ∷ replies) = answers_of tag reply ++ answers_by tags replies
answers_by tags replies = []

-- The answers end within one of these replies, to commands with these tags: they are all answers of
-- the replies before it, then some of its first. Its other answers and those of the replies after
-- it are missing.
pub record EndsInReply (tags : List (List ℕ)) (replies : List Reply) (answers : List Answer) :
    Type 0 where
  pub whole : ℕ
  pub first : List Answer
  pub within : whole < length replies
  pub answers_are : answers ≡ answers_by tags (take whole replies) ++ first
  pub first_of_reply : IsPrefixOf first
      (answers_by (drop whole tags) (take 1 (drop whole replies)))

-- These items are these commands, in a session that doesn't idle.
abbrev pub AreAsked : List Item → List Tagged → Type 0
AreAsked [] [] = Unit {0}
AreAsked (item ∷ items) (tagged ∷ all) =
    IsRequest None item (requests.Command tagged) × AreAsked items all
AreAsked items all = ⊥

-- `steps` relates the port before and after a command or a line of IDLE.
module _ {S : Type 0} (steps : S → PortCall → Result Reply PortFault → S → Type 0) where
  -- The port was given these commands, one after another, with these replies. A fault belongs to
  -- the first command without a reply; no command after that one was given.
  abbrev pub CarriesCommands : S → List Tagged → List Reply → Result (Unit {0}) PortFault → S
      → Type 0
  CarriesCommands old [] [] (Ok all) new = new ≡ old
  CarriesCommands old (tagged ∷ rest) [] (Err fault) new =
      steps old (asked.Command tagged) (Err fault) new
  CarriesCommands old (tagged ∷ rest) (reply ∷ replies) given new =
      (mid : S)
      × steps old (asked.Command tagged) (Ok reply) mid
      × CarriesCommands mid rest replies given new
  CarriesCommands old all replies given new = ⊥

  -- A batch ends the conversation, after these answers: memory ran out before any command of the
  -- nonempty batch was given; the port gave no reply to one of them; or memory ran out for one of
  -- the replies after all commands were given, and the answers end in that reply.
  abbrev pub EndsInBatch : S → List Tagged → Ended → List Answer → S → Type 0
  EndsInBatch old all ended answers new =
      ((ended ≡ NoMemory) × (answers ≡ []) × (new ≡ old) × ((all ≡ []) → ⊥))
      ⊎ ((replies : List Reply) × (given : Result (Unit {0}) PortFault)
      × CarriesCommands old all replies given new
      × (((fault : PortFault) × (given ≡ Err fault) × (ended ≡ end_reason_of fault)
      × (answers ≡ answers_by (tags_of all) replies))
      ⊎ ((ended ≡ NoMemory) × EndsInReply (tags_of all) replies answers)))
