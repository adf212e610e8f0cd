-- The whole conversation of `converse` with a mail client: the calls of the port, the octets read,
-- the text of the answers, and how it ends.

use Rattle.std.specs.Prelude.{◌≡◌, ◌⊎◌, ℕ, Bool, true, false, Option, None, Some, List, [], ◌∷◌, ◌++◌}
use Rattle.std.specs.Prelude.{Result, Ok, Err, IsOk}
use Rattle.imap_answers.specs.AnswerText.{text_of_answer}
use Rattle.imap_answers.specs.declared.answer.Answer.{Answer}
use Rattle.imap_answers.specs.declared.answer.Answer.TheVariants.{Greeting}
use Rattle.imap_answers.specs.declared.fixed_words.Login.{Login}
use Rattle.imap_lex.specs.Framing.{Cut, IsPrefix, cut_from, start}
use Rattle.imap_lex.specs.declared.fault.FrameFaultKind.{FrameFaultKind}
use Rattle.imap_lex.specs.declared.fault.FrameFaultKind.TheVariants.{LineTooLong, LiteralTooLong}
use Rattle.imap_lex.specs.declared.fault.FrameFaultKind.TheVariants.{NulByte}
use Rattle.imap_lex.specs.declared.fault.FrameFaultKind.TheVariants.{NoMemory as NoRoomForItem}
use Rattle.imap_lex.specs.declared.fault.FrameFaultKind.TheVariants.{Failed}
use Rattle.imap_lex.specs.declared.item.Item.{Item}
use Rattle.imap_lex.specs.declared.limits.Limits.{Limits}
use Rattle.imap_node.specs.declared.reply.Reply.{Reply}
use Rattle.imap_syntax.specs.declared.command.Tagged.{Tagged}
use Rattle.imap_connection.specs.PortCalls.{PortCall}
use Rattle.imap_connection.specs.Batches.{AreAsked, CarriesCommands, are_brief}
use Rattle.imap_connection.specs.Conversation.{IsPrefixOf}
use Rattle.imap_connection.specs.Replies.{answers_of}
use Rattle.imap_connection.specs.Devices.{GivesOctets, TakesOctets, TakesAllOrPart}
use Rattle.imap_connection.specs.EndReasons.{bye_text_of, end_reason_of}
use Rattle.imap_connection.specs.Requests.{AnswersItem, StopsAt, texts}
use Rattle.imap_connection.specs.declared.answer_writer.UnprintedReply.{UnprintedReply}
use Rattle.imap_connection.specs.declared.end_reason.Ended.{Ended}
use Rattle.imap_connection.specs.declared.end_reason.Ended.TheVariants.{PeerClosed}
use Rattle.imap_connection.specs.declared.end_reason.Ended.TheVariants.{Framing}
use Rattle.imap_connection.specs.declared.end_reason.Ended.TheVariants.{ReadFailed}
use Rattle.imap_connection.specs.declared.end_reason.Ended.TheVariants.{WriteFailed}
use Rattle.imap_connection.specs.declared.end_reason.Ended.TheVariants.{NoMemory}
use Rattle.imap_connection.specs.declared.fault.PortFault.{PortFault}

module _ {S : Type 0} (steps : S → PortCall → Result Reply PortFault → S → Type 0) where
  -- Items are answered, one after another, and none ends the conversation; `output` is the text of
  -- the answers.
  abbrev pub Converses : S → Option (List ℕ) → List Item → List ℕ → S → Option (List ℕ) → Type 0
  Converses old idling [] output new after = (output ≡ []) × (new ≡ old) × (after ≡ idling)
  Converses old idling (item ∷ items) output new after =
      (given : List Answer) × (mid : S) × (between : Option (List ℕ)) × (rest : List ℕ)
      × AnswersItem steps old idling item given mid between false
      × (output ≡ texts given ++ rest)
      × Converses mid between items rest new after

  -- The conversation over these items ends at one of them, after those before it.
  pub record EndsAtItem (old : S) (idling : Option (List ℕ)) (items : List Item) (ended : Ended)
      (output : List ℕ) (new : S) : Type 0 where
    pub front : List Item
    pub item : Item
    pub back : List Item
    pub before : List ℕ
    pub mid : S
    pub between : Option (List ℕ)
    pub given : List Answer
    pub items_are : items ≡ front ++ item ∷ back
    pub answered : Converses old idling front before mid between
    pub stops : StopsAt steps mid between item ended given new
    pub output_is : output ≡ before ++ texts given

  -- Items were answered, and the conversation continued.
  pub record HasAnswered (old : S) (idling : Option (List ℕ)) (items : List Item) (output : List ℕ)
      (new : S)
      : Type 0 where
    pub after : Option (List ℕ)
    pub answered : Converses old idling items output new after

  -- Some of the first of these items were answered, and the conversation continued.
  pub record HasAnsweredSome (old : S) (idling : Option (List ℕ)) (items : List Item)
      (output : List ℕ)
      (new : S) : Type 0 where
    pub front : List Item
    pub first : IsPrefix front items
    pub answered_front : HasAnswered old idling front output new

  -- The octets can't be cut any further, for this reason: the items before the fault were answered;
  -- or memory ran out, and some of the first items were answered.
  abbrev pub IsCut : S → Option (List ℕ) → Cut → FrameFaultKind → List ℕ → S → Type 0
  IsCut old idling cut NoRoomForItem output new = HasAnsweredSome old idling cut.0 output new
  IsCut old idling cut Failed output new = ⊥
  IsCut old idling cut LineTooLong output new =
      (cut.1 ≡ Err LineTooLong) × HasAnswered old idling cut.0 output new
  IsCut old idling cut LiteralTooLong output new =
      (cut.1 ≡ Err LiteralTooLong) × HasAnswered old idling cut.0 output new
  IsCut old idling cut NulByte output new =
      (cut.1 ≡ Err NulByte) × HasAnswered old idling cut.0 output new

  -- Items were taken: the first were answered, and the rest are brief commands of a session that
  -- doesn't idle, not given to the port yet.
  pub record HasTaken (old : S) (idling : Option (List ℕ)) (items : List Item) (output : List ℕ)
      (new : S) (between : Option (List ℕ)) (waiting : List Tagged) : Type 0 where
    pub front : List Item
    pub back : List Item
    pub items_are : items ≡ front ++ back
    pub answered : Converses old idling front output new between
    pub waits : AreAsked back waiting
    pub brief : are_brief waiting ≡ true
    pub awake : (back ≡ []) ⊎ (between ≡ None)

  -- Memory ran out for the reply to a brief command, after its batch was given to the port: all
  -- items before it were answered, and the first answers of this reply were written. The rest of it
  -- is lost, and so are the replies to the later commands of the batch, although the port was given
  -- these commands.
  pub record LacksAnswers (old : S) (idling : Option (List ℕ)) (items : List Item) (output : List ℕ)
      (new : S) : Type 0 where
    pub front : List Item
    pub batch : List Item
    pub back : List Item
    pub before : List ℕ
    pub mid : S
    pub command : Tagged
    pub later : List Tagged
    pub reply : Reply
    pub replies : List Reply
    pub fault : Result (Unit {0}) PortFault
    pub written : List Answer
    pub items_are : items ≡ front ++ (batch ++ back)
    pub answered : Converses old idling front before mid None
    pub asked : AreAsked batch (command ∷ later)
    pub brief : are_brief (command ∷ later) ≡ true
    pub carried_out : CarriesCommands steps mid (command ∷ later) (reply ∷ replies) fault new
    pub first_answers : IsPrefixOf written (answers_of command.tag reply)
    pub output_is : output ≡ before ++ texts written

  -- The conversation over these items ends: a write failed after some of them; it ends at one of
  -- them; or memory ran out for the reply to a brief command.
  abbrev pub EndsOverItems : S → Option (List ℕ) → List Item → Ended → List ℕ → S → Type 0
  EndsOverItems old idling items ended output new =
      ((ended ≡ WriteFailed) × HasAnsweredSome old idling items output new)
      ⊎ (EndsAtItem old idling items ended output new
      ⊎ ((ended ≡ NoMemory) × LacksAnswers old idling items output new))

  -- An item was taken after others, and the text of the answers was added to the first text; or the
  -- reply to it isn't printed yet, and only the text of the answers before it was added. Then the
  -- conversation may end with some of the first answers of this reply, if memory runs out for it.
  abbrev pub TakesItem : S → Option (List ℕ) → List Item → List ℕ → Option UnprintedReply → List ℕ
      → S → Option (List ℕ) → List Tagged → List ℕ → Type 0
  TakesItem old idling items output None text new between waiting longer =
      (more : List ℕ)
      × HasTaken old idling items (output ++ more) new between waiting
      × (longer ≡ text ++ more)
  TakesItem old idling items output (Some unprinted) text new between waiting longer =
      (more : List ℕ)
      × HasTaken old idling items
      (output ++ (more ++ texts (answers_of unprinted.tag unprinted.reply))) new between waiting
      × (longer ≡ text ++ more)
      × ((front : List Answer) → IsPrefixOf front (answers_of unprinted.tag unprinted.reply)
      → EndsOverItems old idling items NoMemory (output ++ (more ++ texts front)) new)

  -- The conversation over the items that octets give ends: the octets can't be cut any further; or
  -- it ends over the items.
  abbrev pub EndsOverCut : S → Option (List ℕ) → Cut → Ended → List ℕ → S → Type 0
  EndsOverCut old idling cut ended output new =
      ((why : FrameFaultKind) × (ended ≡ Framing why) × IsCut old idling cut why output new)
      ⊎ EndsOverItems old idling cut.0 ended output new

  -- The conversation over the items that all octets give ends: the source reported its end, or a
  -- read failed, after all items; or the octets end it.
  abbrev pub EndsOverOctets : S → Cut → Ended → Bool → List ℕ → S → Type 0
  EndsOverOctets old cut ended at_end output new =
      ((ended ≡ PeerClosed) × (at_end ≡ true) × IsOk cut.1 × HasAnswered old None cut.0 output new)
      ⊎ (((ended ≡ ReadFailed) × IsOk cut.1 × HasAnswered old None cut.0 output new)
      ⊎ EndsOverCut old None cut ended output new)

  -- A conversation after its session was opened: the greeting is the first answer; or memory ran
  -- out for it, and nothing was read.
  abbrev pub HoldsConversation : S → Login → Limits → List ℕ → Ended → Bool → List ℕ → S
      → Type 0
  HoldsConversation old login limits octets ended at_end output new =
      ((rest : List ℕ) × (output ≡ text_of_answer (Greeting login) ++ rest)
      × EndsOverOctets old (cut_from limits (Ok start) octets) ended at_end rest new)
      ⊎ ((ended ≡ NoMemory) × (octets ≡ []) × (output ≡ []) × (new ≡ old))

-- All the text was written, and the conversation ended in `ended`; or a write failed, and an
-- initial part was written.
abbrev pub IsWritten : Ended → List ℕ → Ended → Option (List ℕ) → Option (List ℕ) → Type 0
IsWritten ended output result old new =
    ((result ≡ ended) × TakesOctets old output new)
    ⊎ ((result ≡ WriteFailed) × TakesAllOrPart false old output new)

-- `opens`, `steps` and `closes` relate the port before and after its session is opened, before and
-- after a command or a line of IDLE, and before and after its session is closed.
module _ {S : Type 0} (opens : S → Result Login PortFault → S → Type 0)
    (steps : S → PortCall → Result Reply PortFault → S → Type 0) (closes : S → S → Type 0) where
  -- A whole conversation, from the opening of its session to its close: the calls of the port, what
  -- was read, what was written and how it ended. If the session can't be opened, that is the only
  -- call, and nothing is read.
  abbrev pub IsConversation : S → S → Limits → Option (List ℕ) → Option (List ℕ) → Bool
      → Option (List ℕ)
      → Option (List ℕ) → Ended → Type 0
  IsConversation old new limits left rest at_end taken written result =
      ((fault : PortFault) × opens old (Err fault) new × (rest ≡ left)
      × IsWritten (end_reason_of fault) (bye_text_of (end_reason_of fault)) result taken written)
      ⊎ ((login : Login) × (first : S) × (last : S) × (octets : List ℕ) × (ended : Ended)
      × (output : List ℕ)
      × opens old (Ok login) first
      × closes last new
      × GivesOctets left octets rest
      × HoldsConversation steps first login limits octets ended at_end output last
      × IsWritten ended (output ++ bye_text_of ended) result taken written)
