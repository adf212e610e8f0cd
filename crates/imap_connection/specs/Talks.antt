-- The contract of `talk` and of polls: the turns of one piece of input, and how it ends the
-- conversation.

use Rattle.std.specs.Prelude.{◌≡◌, ℕ, List, [], ◌∷◌, ◌++◌, Option, Some, None, Result, Err, IsOk}
use Rattle.std.specs.Prelude.{IsErr, option_to_list}
use Rattle.imap_lex.specs.Framing.{Cut, FrameProgress}
use Rattle.imap_lex.specs.declared.fault.FrameFaultKind.{FrameFaultKind}
use Rattle.imap_lex.specs.declared.fault.FrameFaultKind.TheVariants.{LineTooLong, LiteralTooLong}
use Rattle.imap_lex.specs.declared.fault.FrameFaultKind.TheVariants.{NulByte, NoMemory, Failed}
use Rattle.imap_answers.specs.declared.answer.Answer.{Answer}
use Rattle.imap_answers.specs.declared.answer.Answer.TheVariants.{Bye}
use Rattle.imap_answers.specs.declared.fixed_words.ByeReason.TheVariants as reasons
use Rattle.imap_node.specs.Nodes.{IsActive, NodeState, with_session_closed}
use Rattle.imap_node.specs.Responses.{Responds}
use Rattle.imap_node.specs.declared.input.Input.TheVariants.{Poll}
use Rattle.imap_node.specs.declared.reply.Reply.{Reply}
use Rattle.imap_connection.specs.Conversation.{BreaksOff, Converses, IsPrefixOf, TimedItem}
use Rattle.imap_connection.specs.Conversation.{turns_of_answers, items_at}
use Rattle.imap_connection.specs.Replies.{polled_answers}
use Rattle.imap_connection.specs.declared.turn.TalkFaultKind.{TalkFaultKind}
use Rattle.imap_connection.specs.declared.turn.TalkFaultKind.TheVariants as kinds
use Rattle.imap_connection.specs.declared.turn.Turn.{Turn}

-- The items that octets complete, each with the moment at which it arrived, and the state of the
-- framer after them.
abbrev pub TimedCut : Type 0
TimedCut = List TimedItem × Result FrameProgress FrameFaultKind

-- A cut of octets that arrived at one moment.
abbrev pub cut_at : ℕ → Cut → TimedCut
cut_at moment cut = (items_at moment cut.0, cut.1)

-- The BYE that ends a connection for a fault of the framer.
abbrev pub bye_of : FrameFaultKind → Option Answer
bye_of LineTooLong = Some (Bye reasons.LineTooLong)
bye_of LiteralTooLong = Some (Bye reasons.LiteralTooLong)
bye_of NulByte = Some (Bye reasons.NulInText)
bye_of NoMemory = None
bye_of Failed = None

-- The turns that a fault of the framer adds.
abbrev pub bye_turns : FrameFaultKind → List Turn
bye_turns why = turns_of_answers (option_to_list (bye_of why))

-- How a conversation ends at a fault of the framer: with its BYE, or with `NoMemory` if memory runs
-- out for that.
abbrev pub EndsWithBye : FrameFaultKind → TalkFaultKind → List Turn → List Turn → Type 0
EndsWithBye why (kinds.Framing fault) old new = (fault ≡ why) × (new ≡ old ++ bye_turns why)
EndsWithBye why kinds.NoMemory old new = new ≡ old
EndsWithBye why kinds.LineRefused old new = ⊥

-- How a conversation ends at a line of IDLE that was refused because memory ran out: with a BYE, or
-- without one if memory runs out for that too.
abbrev pub EndsAtRefusedLine : TalkFaultKind → List Turn → List Turn → Type 0
EndsAtRefusedLine kinds.LineRefused old new =
    new ≡ old ++ turns_of_answers (Bye reasons.NoMemory ∷ [])
EndsAtRefusedLine kinds.NoMemory old new = new ≡ old
EndsAtRefusedLine (kinds.Framing why) old new = ⊥

-- The turns of a piece of input: those of the conversation over the items that the piece completes.
-- If the session continues, the framer has what is left of the piece.
abbrev pub TakesPiece : NodeState → ℕ → TimedCut → List Turn → NodeState
    → Result FrameProgress FrameFaultKind → Type 0
TakesPiece old session cut turns new state =
    Converses old session cut.0 turns new × (IsActive new session → (state ≡ cut.1) × IsOk state)

-- How a piece of input ends a conversation.
abbrev pub EndsTalk : TalkFaultKind → NodeState → ℕ → Result FrameProgress FrameFaultKind → TimedCut
    → List Turn → NodeState → Type 0
-- memory ran out, after some of the items
EndsTalk kinds.NoMemory old session state cut turns new =
    (items : List TimedItem)
    × IsPrefixOf items cut.0
    × BreaksOff kinds.NoMemory old session items turns new
-- memory ran out at a line of IDLE, after the items before it
EndsTalk kinds.LineRefused old session state cut turns new =
    (items : List TimedItem)
    × IsPrefixOf items cut.0
    × BreaksOff kinds.LineRefused old session items turns new
-- a fault of the framer, after the items before it
EndsTalk (kinds.Framing NoMemory) old session state cut turns new =
    (items : List TimedItem)
    × (mid : NodeState)
    × IsPrefixOf items cut.0
    × Converses old session items turns mid
    × IsActive mid session
    × (new ≡ with_session_closed mid session)
EndsTalk (kinds.Framing Failed) old session state cut turns new =
    IsErr state × (turns ≡ []) × (new ≡ with_session_closed old session)
EndsTalk (kinds.Framing why) old session state cut turns new =
    (cut.1 ≡ Err why)
    × (mid : NodeState)
    × (before : List Turn)
    × Converses old session cut.0 before mid
    × IsActive mid session
    × (turns ≡ before ++ bye_turns why) × (new ≡ with_session_closed mid session)

-- ---- polls

-- A session is polled: the turns are the answers that it is sent; none if the poll is refused.
abbrev pub IsPoll : NodeState → ℕ → List Turn → NodeState → Type 0
IsPoll old session turns new =
    (reply : Reply)
    × Responds old session Poll reply new
    × (turns ≡ turns_of_answers (polled_answers reply))

-- Memory ran out during the answers to a poll, which was carried out: some of them are sent, and
-- the session is closed.
abbrev pub BreaksPoll : NodeState → ℕ → List Turn → NodeState → Type 0
BreaksPoll old session turns new =
    (reply : Reply)
    × (mid : NodeState)
    × Responds old session Poll reply mid
    × IsPrefixOf turns (turns_of_answers (polled_answers reply))
    × (new ≡ with_session_closed mid session)
