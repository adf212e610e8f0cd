-- How a conversation takes one item: its request, the call of the port, the answers, and how the
-- item ends the conversation.

use Rattle.std.specs.Prelude.{◌≡◌, ◌⊎◌, ℕ, Bool, true, false, ◌&&◌, Option, Some, None, List, []}
use Rattle.std.specs.Prelude.{◌∷◌, ◌++◌, Result, Ok, Err, if◌then◌else◌}
use Rattle.std.specs.List.{flat_map}
use Rattle.imap_answers.specs.AnswerText.{text_of_answer}
use Rattle.imap_answers.specs.declared.answer.Answer.{Answer}
use Rattle.imap_syntax.specs.declared.command.Command.{Command}
use Rattle.imap_syntax.specs.declared.command.Command.TheVariants as commands
use Rattle.imap_syntax.specs.declared.command.Tagged.{Tagged}
use Rattle.imap_syntax.specs.declared.idle.IdleLine.{IdleLine}
use Rattle.imap_lex.specs.declared.item.Item.{Item}
use Rattle.imap_commands.specs.Commands.{is_brief, is_idle}
pub use Rattle.imap_node.specs.Replies.{is_done}
use Rattle.imap_node.specs.declared.reply.Reply.{Reply}
use Rattle.imap_connection.specs.Conversation.{IsPrefixOf}
use Rattle.imap_connection.specs.RequestSteps.{IsRequest}
use Rattle.imap_connection.specs.Replies.{answers_of, is_out_of_memory}
use Rattle.imap_connection.specs.declared.request.Request.{Request}
use Rattle.imap_connection.specs.declared.request.Request.TheVariants as requests
use Rattle.imap_connection.specs.declared.request_steps.Asking.{Asking}
use Rattle.imap_connection.specs.declared.request_steps.Asking.TheVariants.{Later, Now}
use Rattle.imap_connection.specs.PortCalls.{PortCall}
use Rattle.imap_connection.specs.PortCalls as asked
use Rattle.imap_connection.specs.EndReasons.{end_reason_of}
use Rattle.imap_connection.specs.declared.end_reason.Ended.{Ended}
use Rattle.imap_connection.specs.declared.end_reason.Ended.TheVariants.{Logout, NoMemory}
use Rattle.imap_connection.specs.declared.end_reason.Ended.TheVariants.{WriteFailed}
use Rattle.imap_connection.specs.declared.answer_writer.UnprintedReply.{UnprintedReply}
use Rattle.imap_connection.specs.Devices.{IsOutput, TakesAllOrPart}
use Rattle.imap_connection.specs.declared.fault.PortFault.{PortFault}

-- The text of answers, one after another; and whether a command is LOGOUT.
abbrev pub texts : List Answer → List ℕ
texts answers = flat_map text_of_answer answers

abbrev pub is_logout : Command → Bool
is_logout commands.Logout = true
is_logout _ = false

-- The output of these answers breaks off: a write failed, and a sink took an initial part of the
-- buffered octets and of their text; or memory ran out for one of them, after those before it.
abbrev pub BreaksOutput : Ended → Option (List ℕ) → List ℕ → List Answer → Option (List ℕ)
    → List ℕ → Type 0
BreaksOutput ended old held answers new left =
    ((ended ≡ WriteFailed) × TakesAllOrPart false old (held ++ texts answers) new)
    ⊎ ((ended ≡ NoMemory)
    × ((front : List Answer) × IsPrefixOf front answers × IsOutput old held (texts front) new left))

-- The tag of the IDLE that a command and its reply begin.
abbrev pub idling_after_reply : Tagged → Reply → Option (List ℕ)
idling_after_reply tagged reply =
    if is_idle tagged.command && is_done reply then Some tagged.tag else None

-- A LOGOUT was answered OK.
abbrev pub logs_out : Tagged → Reply → Bool
logs_out tagged reply = is_logout tagged.command && is_done reply

-- The call that a request makes of the port.
abbrev pub call_of : Request → Option PortCall
call_of (requests.Immediate answer) = None
call_of (requests.Command tagged) = Some (asked.Command tagged)
call_of (requests.Line tag line) = Some (asked.Line line)

-- A brief command waits for its batch, and every other request is given to the port at once.
abbrev pub IsAskingOf : Request → Asking → Type 0
IsAskingOf request (Later tagged) =
    (request ≡ requests.Command tagged) × (is_brief tagged.command ≡ true)
IsAskingOf request (Now asked) = asked ≡ request

-- Memory ran out before the port was called or anything was answered.
abbrev pub IsUnasked : {S : Type 0} → S → Ended → List Answer → S → Type 0
IsUnasked {S} old ended given new = (ended ≡ NoMemory) × (given ≡ []) × (new ≡ old)

-- `steps` relates the port before and after a command or a line of IDLE.
module _ {S : Type 0} (steps : S → PortCall → Result Reply PortFault → S → Type 0) where
  -- A session, which idles with this tag or doesn't idle, makes a request to the port; `given` are
  -- the answers, `after` is the tag of its IDLE afterwards, and `out` says whether it has logged
  -- out.
  abbrev pub HandlesRequest : S → Option (List ℕ) → Request → List Answer → S → Option (List ℕ)
      → Bool → Type 0
  HandlesRequest old idling (requests.Immediate answer) given new after out =
      (given ≡ answer ∷ []) × (new ≡ old) × (after ≡ idling) × (out ≡ false)
  HandlesRequest old idling (requests.Command tagged) given new after out =
      (reply : Reply)
      × steps old (asked.Command tagged) (Ok reply) new
      × (given ≡ answers_of tagged.tag reply)
      × (after ≡ idling_after_reply tagged reply)
      × (out ≡ logs_out tagged reply)
  HandlesRequest old idling (requests.Line tag line) given new after out =
      (reply : Reply)
      × steps old (asked.Line line) (Ok reply) new
      × (is_out_of_memory reply ≡ false)
      × (given ≡ answers_of tag reply)
      × (after ≡ None)
      × (out ≡ false)

  -- A request is handled, and the text of its answers is added to the first text, or its reply isn't
  -- printed yet.
  abbrev pub TakesRequest : S → Option (List ℕ) → Request → Option UnprintedReply → List ℕ → S
      → Option (List ℕ) → List ℕ → Type 0
  TakesRequest old idling request None text new after longer =
      (given : List Answer)
      × HandlesRequest old idling request given new after false
      × (longer ≡ text ++ texts given)
  TakesRequest old idling request (Some unprinted) text new after longer =
      HandlesRequest old idling request (answers_of unprinted.tag unprinted.reply) new after false
      × (longer ≡ text)

  -- The port gives no reply, and nothing is answered.
  abbrev pub IsRefused : S → Request → Ended → List Answer → S → Type 0
  IsRefused old request ended given new =
      (call : PortCall)
      × (fault : PortFault)
      × (call_of request ≡ Some call)
      × steps old call (Err fault) new
      × (ended ≡ end_reason_of fault)
      × (given ≡ [])

  -- A line of IDLE is refused because memory ran out, and nothing is answered.
  abbrev pub IsLineRefused : S → Request → Ended → List Answer → S → Type 0
  IsLineRefused old request ended given new =
      (line : IdleLine)
      × (reply : Reply)
      × (call_of request ≡ Some (asked.Line line))
      × steps old (asked.Line line) (Ok reply) new
      × (is_out_of_memory reply ≡ true)
      × (ended ≡ NoMemory) × (given ≡ [])

  -- A request ends the conversation, after these answers: a LOGOUT was answered OK; memory ran out
  -- for one of the answers; a line of IDLE was refused because memory ran out; or the port gave no
  -- reply.
  abbrev pub EndsAtRequest : S → Option (List ℕ) → Request → Ended → List Answer → S → Type 0
  EndsAtRequest old idling request ended given new =
      ((ended ≡ Logout)
      × ((after : Option (List ℕ)) × HandlesRequest old idling request given new after true))
      ⊎ (((ended ≡ NoMemory)
      × ((all : List Answer) × (after : Option (List ℕ)) × (out : Bool)
      × HandlesRequest old idling request all new after out × IsPrefixOf given all))
      ⊎ (IsLineRefused old request ended given new
      ⊎ IsRefused old request ended given new))

  -- Memory ran out before the port was called or anything was answered, or a request ends the
  -- conversation.
  abbrev pub FailsRequest : S → Option (List ℕ) → Request → Ended → List Answer → S → Type 0
  FailsRequest old idling request ended given new =
      IsUnasked old ended given new ⊎ EndsAtRequest old idling request ended given new

  -- An item is answered.
  abbrev pub AnswersItem : S → Option (List ℕ) → Item → List Answer → S → Option (List ℕ) → Bool
      → Type 0
  AnswersItem old idling item given new after out =
      (request : Request)
      × IsRequest idling item request
      × HandlesRequest old idling request given new after out

  -- The conversation ends at an item: memory ran out before the port was called; or its request
  -- ends it.
  abbrev pub StopsAt : S → Option (List ℕ) → Item → Ended → List Answer → S → Type 0
  StopsAt old idling item ended given new =
      IsUnasked old ended given new
      ⊎ ((request : Request) × IsRequest idling item request
      × EndsAtRequest old idling request ended given new)
