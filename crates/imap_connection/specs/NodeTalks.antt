-- A conversation over a node's port, and the node's own conversation over the same items.

use Rattle.std.specs.Prelude.{◌≡◌, ℕ, Option, Some, List, [], ◌∷◌, ◌++◌, map, Ok}
use Rattle.std.specs.List.{flat_map}
use Rattle.imap_answers.specs.AnswerText.{text_of_answer}
use Rattle.imap_answers.specs.declared.answer.Answer.TheVariants.{Greeting}
use Rattle.imap_lex.specs.Framing.{cut_from, start}
use Rattle.imap_lex.specs.declared.fault.FrameFaultKind.TheVariants.{LineTooLong, LiteralTooLong}
use Rattle.imap_lex.specs.declared.fault.FrameFaultKind.TheVariants.{NulByte}
use Rattle.imap_lex.specs.declared.item.Item.{Item}
use Rattle.imap_lex.specs.declared.limits.Limits.{Limits}
use Rattle.imap_node.specs.Nodes.{HasLoggedOut, IsActive, NodeState, with_session_closed}
use Rattle.imap_node.specs.Sessions.{OpensSession}
use Rattle.imap_node.specs.declared.sessions.Auth.{Auth}
use Rattle.imap_connection.specs.Conversation.{item_at}
use Rattle.imap_connection.specs.Replies.{idling_at}
use Rattle.imap_connection.specs.Streams.{ConversesBetweenOthers, SomeOtherSteps, ItemsAt}
use Rattle.imap_connection.specs.declared.turn.Turn.{Turn}
use Rattle.imap_connection.specs.declared.turn.Turn.TheVariants.{Got, Sent}
use Rattle.imap_connection.specs.EndReasons.{bye_text_of}
use Rattle.imap_connection.specs.NodePorts.{NodeSession, login_of}
use Rattle.imap_connection.specs.declared.end_reason.Ended.{Ended}
use Rattle.imap_connection.specs.declared.end_reason.Ended.TheVariants.{Logout, PeerClosed}
use Rattle.imap_connection.specs.declared.end_reason.Ended.TheVariants.{Framing}
use Rattle.imap_connection.specs.declared.end_reason.Ended.TheVariants.{ReadFailed}

-- The octets that a conversation's turns send, one after another.
abbrev pub text_of_turn : Turn → List ℕ
text_of_turn (Got octets) = []
text_of_turn (Sent octets) = octets

abbrev pub text_sent : List Turn → List ℕ
text_sent turns = flat_map text_of_turn turns

-- The session with this number is open, has not logged out, and idles with this tag or doesn't
-- idle.
pub record IsOpenSession {O : Type 0} (port : NodeSession O) (n : ℕ) (idling : Option (List ℕ)) :
    Type 0 where
  pub session : port.session ≡ Some n
  pub active : IsActive port.node n
  pub idles : idling_at port.node n ≡ idling

-- An end after all that the client sent, or after a LOGOUT: memory didn't run out, and no write
-- failed.
abbrev pub IsWhole : Ended → Type 0
IsWhole Logout = Unit {0}
IsWhole PeerClosed = Unit {0}
IsWhole ReadFailed = Unit {0}
IsWhole (Framing LineTooLong) = Unit {0}
IsWhole (Framing LiteralTooLong) = Unit {0}
IsWhole (Framing NulByte) = Unit {0}
IsWhole ended = ⊥

-- An item, with the node and the moment at which it arrived.
pub record ItemAt : Type 0 where
  pub node : NodeState
  pub moment : ℕ
  pub item : Item

-- Each item on its own: others may use the node between any two.
abbrev pub items_at_one : ItemAt → ItemsAt
items_at_one placed = record { node = placed.node; items = item_at placed.moment placed.item ∷ [] }

abbrev pub items_at_each_one : List ItemAt → List ItemsAt
items_at_each_one all = map items_at_one all

-- The items without their nodes and moments.
abbrev pub items_of : List ItemAt → List Item
items_of all = map (λ (placed : ItemAt). placed.item) all

-- The node has had the conversation over these items, with these turns, while others used it
-- between any two items, and closed the session after a LOGOUT or at the end of the items; others
-- may have used it before the close too.
abbrev pub ClosesAfter : Ended → NodeState → ℕ → List ItemsAt → List Turn → NodeState → Type 0
ClosesAfter Logout first n given turns new =
    (out : NodeState)
    × (last : NodeState)
    × HasLoggedOut out n
    × ConversesBetweenOthers first n given turns (with_session_closed out n)
    × SomeOtherSteps n out last
    × (new ≡ with_session_closed last n)
ClosesAfter ended first n given turns new =
    (last : NodeState)
    × ConversesBetweenOthers first n given turns last
    × IsActive last n
    × (new ≡ with_session_closed last n)

-- A session is opened at a node for a user who becomes known by `auth`. It has the node's
-- conversation over the items that these octets give, each at the moment and in the state of the
-- node at which it arrives, and is closed. The text written is the greeting, what the turns send,
-- and the BYE of the end.
pub record TalksAtNode (old : NodeState) (auth : Auth) (limits : Limits) (octets : List ℕ)
    (ended : Ended) (output : List ℕ) (new : NodeState) : Type 0 where
  pub session : ℕ
  pub first : NodeState
  pub opens : OpensSession old.sessions auth session first.sessions
  pub first_is : first ≡ record old { sessions = first.sessions }
  pub placed : List ItemAt
  pub items : items_of placed ≡ (cut_from limits (Ok start) octets).0
  pub turns : List Turn
  pub closes : ClosesAfter ended first session (items_at_each_one placed) turns new
  pub output_is : output
      ≡ text_of_answer (Greeting (login_of auth)) ++ text_sent turns ++ bye_text_of ended
