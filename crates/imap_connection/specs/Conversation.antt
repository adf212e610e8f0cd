-- The conversation of a node with a session over items of the framer, as turns: the items that
-- arrived and the answers to them (RFC 9051, section 2.2).

use Rattle.std.specs.Prelude.{◌≡◌, ◌↔◌, ◌⊎◌, ℕ, false, Option, Some, None, List, [], ◌∷◌, ◌++◌, map}
use Rattle.imap_syntax.specs.Commands.{EndsIdle, IsSpelled}
use Rattle.imap_syntax.specs.declared.command.Tagged.{Tagged}
use Rattle.imap_syntax.specs.declared.idle.IdleLine.{IdleLine}
use Rattle.imap_syntax.specs.declared.idle.IdleLine.TheVariants.{Done, Other}
use Rattle.imap_lex.specs.declared.item.Item.{Item}
use Rattle.imap_lex.specs.declared.item.Item.TheVariants.{Ready, Frame, Refused}
use Rattle.imap_answers.specs.AnswerText.{text_of_answer}
use Rattle.imap_answers.specs.declared.answer.Answer.{Answer}
use Rattle.imap_answers.specs.declared.answer.Answer.TheVariants.{Bye, Continue}
use Rattle.imap_answers.specs.declared.fixed_words.ByeReason.TheVariants as reasons
use Rattle.imap_answers.specs.declared.fixed_words.Continuation.TheVariants as continuations
use Rattle.imap_node.specs.Nodes.{HasLoggedOut, IsActive, NodeState, with_session_closed}
use Rattle.imap_node.specs.Responses.{Responds}
use Rattle.imap_node.specs.declared.input.Input.TheVariants.{Command, Line}
use Rattle.imap_node.specs.declared.reply.Reply.{Reply}
use Rattle.imap_connection.specs.FaultAnswers.{IsFaultAnswer, IsLiteralAnswer}
use Rattle.imap_connection.specs.Replies.{answers_of, idling_at, is_out_of_memory}
use Rattle.imap_connection.specs.declared.turn.TalkFaultKind.{TalkFaultKind}
use Rattle.imap_connection.specs.declared.turn.TalkFaultKind.TheVariants as kinds
use Rattle.imap_connection.specs.declared.turn.Turn.{Turn}
use Rattle.imap_connection.specs.declared.turn.Turn.TheVariants.{Got, Sent}

-- An item of the framer, and the moment at which it arrived.
pub record TimedItem : Type 0 where
  pub moment : ℕ
  pub item : Item

abbrev pub item_at : ℕ → Item → TimedItem
item_at moment item = record { moment = moment; item = item }

-- Items that arrived at one moment.
abbrev pub items_at : ℕ → List Item → List TimedItem
items_at moment items = map (item_at moment) items

-- ---- turns

-- The turn of an answer.
abbrev pub turn_of_answer : Answer → Turn
turn_of_answer answer = Sent (text_of_answer answer)

-- The turns of answers, in their order.
abbrev pub turns_of_answers : List Answer → List Turn
turns_of_answers given = map turn_of_answer given

-- The turns that show what the client sent as an item; none for a continuation request.
abbrev pub turns_of_item : Item → List Turn
turns_of_item Ready = []
turns_of_item (Frame octets) = Got octets ∷ []
turns_of_item (Refused octets) = Got octets ∷ []

-- An item and the answers to it.
abbrev pub turns_of : Item → List Answer → List Turn
turns_of item given = turns_of_item item ++ turns_of_answers given

-- ---- one item

-- The node takes a frame of a session that doesn't idle, and gives these answers: those to the
-- command that the frame spells, or the one to its fault.
abbrev pub TakesFrame : NodeState → ℕ → ℕ → List ℕ → List Answer → NodeState → Type 0
TakesFrame old session moment octets given new =
    ((tagged : Tagged) × (reply : Reply) × IsSpelled tagged octets
    × Responds old session (Command moment tagged) reply new
    × (given ≡ answers_of tagged.tag reply))
    ⊎ ((answer : Answer) × IsFaultAnswer octets answer × (given ≡ answer ∷ []) × (new ≡ old))

-- The item is this line of IDLE (RFC 2177, section 3). A command beginning that is refused for its
-- literal counts as another line; the notice that a literal may be sent is no line.
abbrev pub IsLine : Item → IdleLine → Type 0
IsLine Ready line = ⊥
IsLine (Frame octets) line = (line ≡ Done) ↔ EndsIdle octets
IsLine (Refused octets) line = line ≡ Other

-- The node takes a line of a session that idles, and answers with the IDLE's tag. A line that is
-- refused because memory ran out gets no answer (see `StopsAt`).
abbrev pub TakesLine : NodeState → ℕ → List ℕ → Item → List Answer → NodeState → Type 0
TakesLine old session tag item given new =
    (line : IdleLine)
    × (reply : Reply)
    × IsLine item line
    × Responds old session (Line line) reply new
    × (is_out_of_memory reply ≡ false)
    × (given ≡ answers_of tag reply)

-- The node takes an item of the framer and gives these answers, if the session idles with this tag,
-- or doesn't idle.
abbrev pub TakesItem : Option (List ℕ) → NodeState → ℕ → ℕ → Item → List Answer → NodeState → Type 0
TakesItem idling old session moment Ready given new =
    (given ≡ Continue continuations.Ready ∷ []) × (new ≡ old)
TakesItem None old session moment (Frame octets) given new =
    TakesFrame old session moment octets given new
TakesItem None old session moment (Refused octets) given new =
    (answer : Answer) × IsLiteralAnswer octets answer × (given ≡ answer ∷ []) × (new ≡ old)
TakesItem (Some tag) old session moment (Frame octets) given new =
    TakesLine old session tag (Frame octets) given new
TakesItem (Some tag) old session moment (Refused octets) given new =
    TakesLine old session tag (Refused octets) given new

-- The node takes an item at the moment at which it arrived, and gives these answers.
abbrev pub TakesItemAt : NodeState → ℕ → TimedItem → List Answer → NodeState → Type 0
TakesItemAt old session timed given new =
    TakesItem (idling_at old session) old session timed.moment timed.item given new

-- ---- many items

-- The turns of a conversation over these items: each is answered in its order, up to a LOGOUT
-- answered OK, after which the session is closed and the rest is dropped.
abbrev pub Converses : NodeState → ℕ → List TimedItem → List Turn → NodeState → Type 0
Converses old session [] turns new = (turns ≡ []) × (new ≡ old)
Converses old session (timed ∷ items) turns new =
    (given : List Answer) × (mid : NodeState) × TakesItemAt old session timed given mid
    × ((IsActive mid session
    × ((rest : List Turn) × (turns ≡ turns_of timed.item given ++ rest)
    × Converses mid session items rest new))
    ⊎ (HasLoggedOut mid session × (turns ≡ turns_of timed.item given)
    × (new ≡ with_session_closed mid session)))

-- The first list is an initial part of the second.
abbrev pub IsPrefixOf : {T : Type 0} → List T → List T → Type 0
IsPrefixOf {T} front all = (back : List T) × (all ≡ front ++ back)

-- The session idles, and the item is a line of it.
abbrev pub IsIdleLine : NodeState → ℕ → Item → Type 0
IsIdleLine node session item =
    (tag : List ℕ) × (line : IdleLine) × (idling_at node session ≡ Some tag) × IsLine item line

-- An item at which the conversation stops.
abbrev pub StopsAt : TalkFaultKind → NodeState → ℕ → TimedItem → List Turn → NodeState → Type 0
-- Memory ran out during the answers to the item: it was not carried out; or it was, and some of its
-- turns were added.
StopsAt kinds.NoMemory old session timed turns new =
    (IsPrefixOf turns (turns_of_item timed.item) × (new ≡ old))
    ⊎ ((given : List Answer) × TakesItemAt old session timed given new
    × IsPrefixOf turns (turns_of timed.item given))
-- A line of IDLE was refused because memory ran out: nothing changed, and a BYE reports it.
StopsAt kinds.LineRefused old session timed turns new =
    IsIdleLine old session timed.item
    × (turns ≡ turns_of timed.item (Bye reasons.NoMemory ∷ []))
    × (new ≡ old)
StopsAt (kinds.Framing why) old session timed turns new = ⊥

-- The turns of a conversation over these items that was broken off: those of some items in full,
-- then those that show the item at which it stops; or, if memory ran out, those of all items in
-- full. The session is closed; a command that was carried out isn't undone.
abbrev pub BreaksOff : TalkFaultKind → NodeState → ℕ → List TimedItem → List Turn → NodeState
    → Type 0
BreaksOff why old session [] turns new =
    (why ≡ kinds.NoMemory) × (turns ≡ []) × (new ≡ with_session_closed old session)
BreaksOff why old session (timed ∷ items) turns new =
    ((mid : NodeState) × StopsAt why old session timed turns mid
    × (new ≡ with_session_closed mid session))
    ⊎ ((given : List Answer) × (mid : NodeState) × TakesItemAt old session timed given mid
    × IsActive mid session
    × ((rest : List Turn) × (turns ≡ turns_of timed.item given ++ rest)
    × BreaksOff why mid session items rest new))
