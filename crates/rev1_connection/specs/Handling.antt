-- What a conversation does with one item: the calls of the port, what is shown, the state of the
-- session afterwards, and how the item ends the conversation.

use Rattle.std.specs.Prelude.{◌≡◌, ◌⊎◌, ℕ, Bool, true, false, ◌&&◌, List, [], ◌++◌, Result}
use Rattle.std.specs.Prelude.{Ok, Err, Some, flat_map, if◌then◌else◌}
use Rattle.imap_answers.specs.AnswerText.{text_of_answer}
use Rattle.imap_answers.specs.declared.answer.Answer.{Answer}
use Rattle.imap_answers.specs.declared.answer.Answer.TheVariants as answers
use Rattle.imap_answers.specs.declared.fixed_words.Continuation.TheVariants as continuations
use Rattle.imap_answers.specs.declared.fixed_words.Refusal.{Refusal}
use Rattle.imap_answers.specs.declared.fixed_words.Refusal.TheVariants as refusals
use Rattle.imap_lex.specs.declared.item.Item.{Item}
use Rattle.imap_lex.specs.declared.item.Item.TheVariants.{Ready}
use Rattle.imap_syntax.specs.declared.command.Command.TheVariants as commands
use Rattle.imap_syntax.specs.declared.command.Tagged.{Tagged}
use Rattle.imap_syntax.specs.declared.idle.IdleLine.{IdleLine}
use Rattle.imap_node.specs.Commands.{is_idle}
use Rattle.imap_node.specs.Replies.{is_done, reply_answers}
use Rattle.imap_node.specs.declared.reply.Reply.{Reply}
use Rattle.imap_node.specs.declared.reply.Reply.TheVariants as replies
use Rattle.imap_connection.specs.EndReasons.{end_reason_of}
use Rattle.imap_connection.specs.PortCalls.{PortCall}
use Rattle.imap_connection.specs.PortCalls as asked
use Rattle.imap_connection.specs.Replies.{answers_of, is_out_of_memory}
use Rattle.imap_connection.specs.Requests.{is_logout, texts}
use Rattle.imap_connection.specs.declared.end_reason.Ended.{Ended}
use Rattle.imap_connection.specs.declared.end_reason.Ended.TheVariants.{Logout, NoMemory}
use Rattle.imap_connection.specs.declared.end_reason.Ended.TheVariants.{WriteFailed}
use Rattle.imap_connection.specs.declared.fault.PortFault.{PortFault}
use Rattle.rev1_front.specs.ClientFrames.{IsCommandFrame}
use Rattle.rev1_front.specs.FrontTexts.{challenge_line, refused_line, text_at_once}
use Rattle.rev1_front.specs.Modes.{mode_after}
use Rattle.rev1_front.specs.SentDays.{sent_days}
use Rattle.rev1_front.specs.Showing.{IsFrontOf}
use Rattle.rev1_front.specs.declared.fixed_texts.FrontRefusal.TheVariants as reasons
use Rattle.rev1_front.specs.declared.form.Form.TheVariants as forms
use Rattle.rev1_front.specs.declared.session.Awaited.{Awaited}
use Rattle.rev1_front.specs.declared.session.Awaited.TheVariants as awaited
use Rattle.rev1_front.specs.declared.session.Mode.{Mode}
use Rattle.rev1_front.specs.declared.taken.Taken.{Taken}
use Rattle.rev1_connection.specs.FrontRequests.{IsItemRequest, octets_of_item, request_of}
use Rattle.rev1_connection.specs.ShownReplies.{IsAllOrNone, IsReplyShown, news_text}
use Rattle.rev1_connection.specs.declared.manner.Manner.{Manner}
use Rattle.rev1_connection.specs.declared.manner.Manner.TheVariants as manners
use Rattle.rev1_connection.specs.declared.rename_port.RenameEnd.{RenameEnd}
use Rattle.rev1_connection.specs.declared.rename_port.RenameEnd.TheVariants as ends
use Rattle.rev1_connection.specs.declared.request.FrontRequest.{FrontRequest}
use Rattle.rev1_connection.specs.declared.request.FrontRequest.TheVariants as requests
use Rattle.rev1_connection.specs.declared.request.Renaming.{Renaming}
use Rattle.rev1_connection.specs.declared.session.FrontSession.{FrontSession}

-- ---- The state of the session.

-- A session that awaits a command.
abbrev pub awake : Mode → FrontSession
awake mode = record { mode = mode; awaited = awaited.Command }

-- What a session awaits after a command that was carried out: a line after IDLE.
abbrev pub awaited_after : Tagged → Awaited
awaited_after tagged =
    if is_idle tagged.command then awaited.Line tagged.tag else awaited.Command

-- A session in this mode after the reply to a command.
abbrev pub session_after : Mode → Tagged → Reply → FrontSession
session_after mode tagged (replies.Done given silent issued) =
    record { mode = mode_after mode given; awaited = awaited_after tagged }
session_after mode tagged (replies.Refused why closed) = awake mode

-- A LOGOUT was answered OK.
abbrev pub logs_out : Tagged → Reply → Bool
logs_out tagged reply = is_logout tagged.command && is_done reply

-- A FETCH of all messages is refused so if there is none.
abbrev pub is_of_no_message : Refusal → Bool → Bool
is_of_no_message refusals.NoSuchMessage false = true
is_of_no_message why closed = false

-- A search by days goes on after this reply to its FETCH.
abbrev pub goes_on : Reply → Bool
goes_on (replies.Done given silent issued) = true
goes_on (replies.Refused why closed) = is_of_no_message why closed

-- The NOOP whose answers RENAME shows.
abbrev pub noop_of : List ℕ → Tagged
noop_of tag = record { tag = tag; command = commands.Noop }

-- ---- How a conversation ends at an item.

-- Memory ran out before the port was called or anything was shown.
abbrev pub IsUnasked : {S : Type 0} → S → Ended → List ℕ → S → Type 0
IsUnasked {S} old ended text new = (ended ≡ NoMemory) × (text ≡ []) × (new ≡ old)

-- Memory ran out, or a write failed, after some of the first answers.
abbrev pub IsBreak : Ended → Type 0
IsBreak ended = (ended ≡ NoMemory) ⊎ (ended ≡ WriteFailed)

-- In what follows `whole` says whether all is shown, or only what is shown of some of the first
-- answers of the last reply; `after` is the session afterwards, and `out` says whether it has
-- logged out.

-- A line is shown, or nothing of it, and the session awaits a command.
abbrev pub IsAtOnce : {S : Type 0} → S → Mode → List ℕ → Bool → List ℕ → S → FrontSession → Bool
    → Type 0
IsAtOnce {S} old mode line whole text new after out =
    IsAllOrNone whole line text × (new ≡ old) × (after ≡ awake mode) × (out ≡ false)

-- The conversation ends, after this text: a LOGOUT was answered OK; a write failed after all was
-- shown; memory ran out, or a write failed, after some of the answers; or the port gave no reply.
abbrev pub EndsBy : {S : Type 0} → (Bool → List ℕ → S → FrontSession → Bool → Type 0)
    → (Ended → List ℕ → S → Type 0) → Ended → List ℕ → S → Type 0
EndsBy {S} handles fails ended text new =
    ((after : FrontSession) × (ended ≡ Logout) × handles true text new after true)
    ⊎ (((after : FrontSession) × (out : Bool) × (ended ≡ WriteFailed)
    × handles true text new after out)
    ⊎ (((after : FrontSession) × (out : Bool) × IsBreak ended × handles false text new after out)
    ⊎ fails ended text new))

-- The conversation ends so, or nothing was asked.
abbrev pub StopsBy : {S : Type 0} → (Bool → List ℕ → S → FrontSession → Bool → Type 0)
    → (Ended → List ℕ → S → Type 0) → S → Ended → List ℕ → S → Type 0
StopsBy {S} handles fails old ended text new =
    IsUnasked old ended text new ⊎ EndsBy handles fails ended text new

-- `steps` relates the port before and after a command or a line of IDLE.
module _ {S : Type 0} (steps : S → PortCall → Result Reply PortFault → S → Type 0) where
  -- A command of the profile is carried out.
  abbrev pub HandlesCommand : S → Mode → Tagged → Manner → Bool → List ℕ → S → FrontSession → Bool
      → Type 0
  HandlesCommand old mode tagged manner whole text new after out =
      (reply : Reply)
      × steps old (asked.Command tagged) (Ok reply) new
      × IsReplyShown whole mode manner tagged.tag reply text
      × (after ≡ session_after mode tagged reply)
      × (out ≡ logs_out tagged reply)

  -- A command of the profile is carried out, and its answers are shown as they are.
  abbrev pub IsCarriedOut : S → Mode → Tagged → List ℕ → S → FrontSession → Bool → Type 0
  IsCarriedOut old mode tagged text new after out =
      (reply : Reply)
      × steps old (asked.Command tagged) (Ok reply) new
      × (text ≡ texts (answers_of tagged.tag reply))
      × (after ≡ session_after mode tagged reply)
      × (out ≡ logs_out tagged reply)

  -- A line of the IDLE with this tag is carried out.
  abbrev pub HandlesLine : S → Mode → List ℕ → IdleLine → Bool → List ℕ → S → FrontSession → Bool
      → Type 0
  HandlesLine old mode tag line whole text new after out =
      (reply : Reply)
      × steps old (asked.Line line) (Ok reply) new
      × (is_out_of_memory reply ≡ false)
      × IsReplyShown whole mode (manners.Form forms.Plain) tag reply text
      × (after ≡ awake mode)
      × (out ≡ false)

  -- The port gives no reply to a command, and nothing is shown.
  abbrev pub FailsCommand : S → Tagged → Ended → List ℕ → S → Type 0
  FailsCommand old tagged ended text new =
      (fault : PortFault)
      × steps old (asked.Command tagged) (Err fault) new
      × (ended ≡ end_reason_of fault)
      × (text ≡ [])

  -- The port gives no reply to a line of IDLE; or the line is refused because memory ran out.
  abbrev pub FailsLine : S → IdleLine → Ended → List ℕ → S → Type 0
  FailsLine old line ended text new =
      ((fault : PortFault)
      × steps old (asked.Line line) (Err fault) new
      × (ended ≡ end_reason_of fault)
      × (text ≡ []))
      ⊎ ((reply : Reply)
      × steps old (asked.Line line) (Ok reply) new
      × (is_out_of_memory reply ≡ true)
      × (ended ≡ NoMemory)
      × (text ≡ []))

-- `renames` relates the port before and after a RENAME.
module _ {S : Type 0} (steps : S → PortCall → Result Reply PortFault → S → Type 0)
    (renames : S → List ℕ → List ℕ → Result RenameEnd PortFault → S → Type 0) where
  -- What follows a RENAME that ended so: its refusal; or the answers to a NOOP.
  abbrev pub FollowsRename : S → Mode → List ℕ → RenameEnd → Bool → List ℕ → S → FrontSession
      → Bool → Type 0
  FollowsRename old mode tag ends.NoSecondSession whole text new after out =
      IsAtOnce old mode (refused_line tag reasons.NoSecondSession) whole text new after out
  FollowsRename old mode tag (ends.Refused why) whole text new after out =
      IsAtOnce old mode (text_of_answer (answers.Refused tag why)) whole text new after out
  FollowsRename old mode tag ends.Renamed whole text new after out =
      HandlesCommand steps old mode (noop_of tag) manners.Renamed whole text new after out

  -- RENAME (RFC 3501, section 6.3.5).
  abbrev pub HandlesRename : S → Mode → Renaming → Bool → List ℕ → S → FrontSession → Bool
      → Type 0
  HandlesRename old mode renaming whole text new after out =
      (end : RenameEnd) × (mid : S)
      × renames old renaming.from renaming.to (Ok end) mid
      × FollowsRename mid mode renaming.tag end whole text new after out

  -- A request is handled, but for the one that asks for days.
  abbrev pub HandlesCall : S → Mode → FrontRequest → Bool → List ℕ → S → FrontSession → Bool
      → Type 0
  HandlesCall old mode (requests.Immediate it) whole text new after out =
      IsAtOnce old mode (text_at_once it) whole text new after out
  HandlesCall old mode (requests.Challenge tag) whole text new after out =
      IsAllOrNone whole challenge_line text × (new ≡ old)
      × (after ≡ record { mode = mode; awaited = awaited.Response tag }) × (out ≡ false)
  HandlesCall old mode (requests.Command tagged manner) whole text new after out =
      HandlesCommand steps old mode tagged manner whole text new after out
  HandlesCall old mode (requests.Line tag line) whole text new after out =
      HandlesLine steps old mode tag line whole text new after out
  HandlesCall old mode (requests.Rename renaming) whole text new after out =
      HandlesRename old mode renaming whole text new after out
  HandlesCall old mode (requests.Days fetch) whole text new after out =
      IsAtOnce old mode [] whole text new after out

  -- What follows these answers to the FETCH of a search by the days on which messages were sent
  -- (RFC 3501, section 6.4.4): their news are shown, and the frame is taken again with the days.
  abbrev pub FollowsSearch : S → Mode → List ℕ → List Answer → Bool → List ℕ → S → FrontSession
      → Bool → Type 0
  FollowsSearch old mode frame given whole text new after out =
      (it : Taken) × (rest : List ℕ)
      × IsCommandFrame mode (Some (sent_days given)) frame it
      × HandlesCall old mode (request_of it) whole rest new after out
      × (text ≡ flat_map news_text given ++ rest)

  -- What follows this refusal of the FETCH: if there is no message, none has a day; else the search
  -- is refused too.
  abbrev pub FollowsRefusal : Bool → S → Mode → List ℕ → List ℕ → Refusal → Bool → Bool → List ℕ → S
      → FrontSession → Bool → Type 0
  FollowsRefusal true old mode frame tag why closed whole text new after out =
      FollowsSearch old mode frame [] whole text new after out
  FollowsRefusal false old mode frame tag why closed whole text new after out =
      IsReplyShown whole mode (manners.Form forms.Plain) tag (replies.Refused why closed) text
      × (new ≡ old) × (after ≡ awake mode) × (out ≡ false)

  -- What follows the reply to this FETCH.
  abbrev pub FollowsDays : S → Mode → List ℕ → List ℕ → Reply → Bool → List ℕ → S → FrontSession
      → Bool → Type 0
  FollowsDays old mode frame tag (replies.Refused why closed) whole text new after out =
      FollowsRefusal (is_of_no_message why closed) old mode frame tag why closed whole text new
      after out
  FollowsDays old mode frame tag (replies.Done given silent issued) whole text new after out =
      FollowsSearch old mode frame given whole text new after out

  -- A request is handled.
  abbrev pub HandlesRequest : S → Mode → List ℕ → FrontRequest → Bool → List ℕ → S → FrontSession
      → Bool → Type 0
  HandlesRequest old mode frame (requests.Days fetch) whole text new after out =
      (reply : Reply) × (mid : S)
      × steps old (asked.Command fetch) (Ok reply) mid
      × FollowsDays mid mode frame fetch.tag reply whole text new after out
  HandlesRequest old mode frame request whole text new after out =
      HandlesCall old mode request whole text new after out

  -- An item is handled. A continuation request for a literal (RFC 3501, section 4.3) leaves the
  -- session as it is.
  abbrev pub HandlesItem : S → FrontSession → Item → Bool → List ℕ → S → FrontSession → Bool
      → Type 0
  HandlesItem old session Ready whole text new after out =
      IsAllOrNone whole (text_of_answer (answers.Continue continuations.Ready)) text
      × (new ≡ old) × (after ≡ session) × (out ≡ false)
  HandlesItem old session item whole text new after out =
      (request : FrontRequest)
      × IsItemRequest session item request
      × HandlesRequest old session.mode (octets_of_item item) request whole text new after out

  -- The port doesn't say how a RENAME ended; or it was carried out, and there is no reply to the
  -- NOOP, or no memory for it.
  abbrev pub FailsRename : S → Renaming → Ended → List ℕ → S → Type 0
  FailsRename old renaming ended text new =
      ((fault : PortFault)
      × renames old renaming.from renaming.to (Err fault) new
      × (ended ≡ end_reason_of fault)
      × (text ≡ []))
      ⊎ ((mid : S)
      × renames old renaming.from renaming.to (Ok ends.Renamed) mid
      × (IsUnasked mid ended text new
      ⊎ FailsCommand steps mid (noop_of renaming.tag) ended text new))

  -- A request ends the conversation, but for the one that asks for days.
  abbrev pub FailsCall : S → FrontRequest → Ended → List ℕ → S → Type 0
  FailsCall old (requests.Immediate it) ended text new = ⊥
  FailsCall old (requests.Challenge tag) ended text new = ⊥
  FailsCall old (requests.Command tagged manner) ended text new =
      FailsCommand steps old tagged ended text new
  FailsCall old (requests.Line tag line) ended text new = FailsLine steps old line ended text new
  FailsCall old (requests.Rename renaming) ended text new = FailsRename old renaming ended text new
  FailsCall old (requests.Days fetch) ended text new = ⊥

  -- A search by days ends the conversation after these answers to its FETCH: memory runs out for
  -- one of the news, or before the search is given to the port; or there is no reply to the search.
  abbrev pub FailsSearch : S → Mode → List ℕ → List Answer → Ended → List ℕ → S → Type 0
  FailsSearch old mode frame given ended text new =
      ((ended ≡ NoMemory) × (new ≡ old)
      × ((front : List Answer) × IsFrontOf front given × (text ≡ flat_map news_text front)))
      ⊎ ((it : Taken) × (rest : List ℕ)
      × IsCommandFrame mode (Some (sent_days given)) frame it
      × FailsCall old (request_of it) ended rest new
      × (text ≡ flat_map news_text given ++ rest))

  -- A search by days ends the conversation.
  abbrev pub FailsDays : S → Mode → List ℕ → Tagged → Ended → List ℕ → S → Type 0
  FailsDays old mode frame fetch ended text new =
      FailsCommand steps old fetch ended text new
      ⊎ ((reply : Reply) × (mid : S)
      × steps old (asked.Command fetch) (Ok reply) mid
      × (goes_on reply ≡ true)
      × FailsSearch mid mode frame (reply_answers reply) ended text new)

  -- A request ends the conversation.
  abbrev pub FailsRequest : S → Mode → List ℕ → FrontRequest → Ended → List ℕ → S → Type 0
  FailsRequest old mode frame (requests.Days fetch) ended text new =
      FailsDays old mode frame fetch ended text new
  FailsRequest old mode frame request ended text new = FailsCall old request ended text new

  abbrev pub FailsItem : S → FrontSession → Item → Ended → List ℕ → S → Type 0
  FailsItem old session item ended text new =
      (request : FrontRequest)
      × IsItemRequest session item request
      × FailsRequest old session.mode (octets_of_item item) request ended text new

  abbrev pub StopsAt : S → FrontSession → Item → Ended → List ℕ → S → Type 0
  StopsAt old session item ended text new =
      StopsBy (HandlesItem old session item) (FailsItem old session item) old ended text new

  -- An item is answered, and the conversation continues.
  abbrev pub AnswersItem : S → FrontSession → Item → List ℕ → S → FrontSession → Type 0
  AnswersItem old session item text new after =
      HandlesItem old session item true text new after false
