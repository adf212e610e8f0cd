-- A connection's octets, piece by piece, and the calls of `talk` on them, with or without others
-- using the node between the pieces.

use Rattle.std.specs.Prelude.{◌≡◌, ◌≢◌, ◌⊎◌, ℕ, zero, suc, List, [], ◌∷◌, ◌++◌, map, Result}
use Rattle.std.specs.List.{flat_map}
use Rattle.causal_inbox.specs.declared.delivery.Arrival.{Arrival}
use Rattle.crdt_ops.specs.declared.op.Op.{Op}
use Rattle.imap_lex.specs.Framing.{FrameProgress, cut_from}
use Rattle.imap_lex.specs.declared.fault.FrameFaultKind.{FrameFaultKind}
use Rattle.imap_lex.specs.declared.item.Item.{Item}
use Rattle.imap_lex.specs.declared.limits.Limits.{Limits}
use Rattle.imap_node.specs.Deliveries.{Delivers, DrainsHeld}
use Rattle.imap_node.specs.Nodes.{IsActive, NodeState, with_session_closed}
use Rattle.imap_node.specs.Responses.{Responds}
use Rattle.imap_node.specs.Sessions.{IsOpen, OpensSession}
use Rattle.imap_node.specs.declared.input.Input.{Input}
use Rattle.imap_node.specs.declared.reply.Reply.{Reply}
use Rattle.imap_node.specs.declared.sessions.Auth.{Auth}
use Rattle.imap_connection.specs.Conversation.{Converses, TimedItem}
use Rattle.imap_connection.specs.Talks.{EndsTalk, TakesPiece, TimedCut, cut_at}
use Rattle.imap_connection.specs.declared.turn.TalkFaultKind.{TalkFaultKind}
use Rattle.imap_connection.specs.declared.turn.Turn.{Turn}

-- ---- the contents of a stream of octets

-- A piece of input, and the moment at which it arrived.
pub record Piece : Type 0 where
  pub moment : ℕ
  pub octets : List ℕ

-- The octets of all pieces.
abbrev pub octets_in : List Piece → List ℕ
octets_in pieces = flat_map (λ (piece : Piece). piece.octets) pieces

-- The items that the octets of a piece complete, and the state of the framer after them.
abbrev pub cut_by : Limits → Result FrameProgress FrameFaultKind → Piece → TimedCut
cut_by limits state piece = cut_at piece.moment (cut_from limits state piece.octets)

-- The items that these pieces complete, each at the moment of the piece that completes it.
abbrev pub items_of : Limits → Result FrameProgress FrameFaultKind → List Piece → List TimedItem
items_of limits state [] = []
items_of limits state (piece ∷ pieces) =
    (cut_by limits state piece).0 ++ items_of limits (cut_by limits state piece).1 pieces

-- The items that the octets of all pieces complete, and the state of the framer after them.
abbrev pub cut_of_pieces : Limits → Result FrameProgress FrameFaultKind → List Piece → TimedCut
cut_of_pieces limits state pieces =
    (items_of limits state pieces, (cut_from limits state (octets_in pieces)).1)

-- The items without their moments.
abbrev pub items_without_moments : List TimedItem → List Item
items_without_moments items = map (λ (timed : TimedItem). timed.item) items

-- ---- only one session

-- The calls of `talk` for a session, one for each of these pieces of input; the session continued
-- after each.
abbrev pub AreTalks : NodeState → ℕ → Limits → Result FrameProgress FrameFaultKind → List Piece
    → List Turn → NodeState → Result FrameProgress FrameFaultKind → Type 0
AreTalks old session limits state [] turns new end = (turns ≡ []) × (new ≡ old) × (end ≡ state)
AreTalks old session limits state (piece ∷ pieces) turns new end =
    (first : List Turn) × (mid : NodeState) × (between : Result FrameProgress FrameFaultKind)
    × TakesPiece old session (cut_by limits state piece) first mid between × IsActive mid session
    × ((rest : List Turn) × (turns ≡ first ++ rest)
    × AreTalks mid session limits between pieces rest new end)

-- The calls of `talk` for a session, one for each of these pieces of input: the node and the framer
-- before the first, all their turns together, and the node and the framer after the last.
pub record Run (P : Type 0) : Type 0 where
  pub session : ℕ
  pub limits : Limits
  pub old : NodeState
  pub before : Result FrameProgress FrameFaultKind
  pub pieces : List P
  pub turns : List Turn
  pub new : NodeState
  pub after : Result FrameProgress FrameFaultKind

-- The session continued after each of the calls.
abbrev pub IsRun : Run Piece → Type 0
IsRun run =
    AreTalks run.old run.session run.limits run.before run.pieces run.turns run.new run.after

-- A further call of `talk`: its piece of input, its turns, and the node and the framer afterwards.
pub record Call : Type 0 where
  pub piece : Piece
  pub turns : List Turn
  pub new : NodeState
  pub after : Result FrameProgress FrameFaultKind

-- The call after a run, which may end the session by a LOGOUT.
abbrev pub IsCallAfter : {P : Type 0} → Run P → Call → Type 0
IsCallAfter run call =
    IsActive run.new run.session
    × TakesPiece run.new run.session (cut_by run.limits run.after call.piece) call.turns call.new
    call.after

-- The call after a run, which ends the connection for this reason.
abbrev pub EndsAfter : {P : Type 0} → TalkFaultKind → Run P → Call → Type 0
EndsAfter why run call =
    IsActive run.new run.session
    × EndsTalk why run.new run.session run.after (cut_by run.limits run.after call.piece) call.turns
    call.new

-- The items and the framer's state after all pieces of a run, and after these and the piece of a
-- further call.
abbrev pub cut_in : Run Piece → TimedCut
cut_in run = cut_of_pieces run.limits run.before run.pieces

abbrev pub cut_with : Run Piece → Call → TimedCut
cut_with run call = cut_of_pieces run.limits run.before (run.pieces ++ call.piece ∷ [])

-- The octets of all pieces of a run, and with the piece of a further call.
abbrev pub octets_with : Run Piece → Call → List ℕ
octets_with run call = octets_in (run.pieces ++ call.piece ∷ [])

-- ---- with deliveries and other sessions between

-- Another session at the node is opened; or one that is open sends a command or a line of IDLE, or
-- is polled, or is closed.
abbrev pub OtherSessionStep : ℕ → NodeState → NodeState → Type 0
OtherSessionStep session old new =
    (other : ℕ) × (other ≢ session)
    × (((auth : Auth) × OpensSession old.sessions auth other new.sessions
    × (new ≡ record old { sessions = new.sessions }))
    ⊎ (IsOpen old.sessions other
    × (((input : Input) × (reply : Reply) × Responds old other input reply new)
    ⊎ (new ≡ with_session_closed old other))))

-- A step at a node that is no call of this session: an operation of another replica is delivered,
-- held operations are released, or another session takes a step.
abbrev pub OtherStep : ℕ → NodeState → NodeState → Type 0
OtherStep session old new =
    ((op : Op) × (arrival : Arrival) × Delivers old op arrival new)
    ⊎ (((count : ℕ) × DrainsHeld old count new) ⊎ OtherSessionStep session old new)

-- This number of such steps, one after another.
abbrev pub OtherSteps : ℕ → ℕ → NodeState → NodeState → Type 0
OtherSteps session zero old new = new ≡ old
OtherSteps session (suc n) old new =
    (mid : NodeState) × OtherStep session old mid × OtherSteps session n mid new

-- Any number of such steps, even none.
abbrev pub SomeOtherSteps : ℕ → NodeState → NodeState → Type 0
SomeOtherSteps session old new = (n : ℕ) × OtherSteps session n old new

-- A piece of input, and the node at which it arrives.
pub record PieceAt : Type 0 where
  pub node : NodeState
  pub piece : Piece

-- The octets of all pieces.
abbrev pub octets_of_pieces : List PieceAt → List ℕ
octets_of_pieces pieces_at = flat_map (λ (piece_at : PieceAt). piece_at.piece.octets) pieces_at

-- The calls of `talk` for a session, one for each of these pieces of input; operations of other
-- replicas were delivered and other sessions took steps before each, and the session continued
-- after each.
abbrev pub TalksBetweenOthers : NodeState → ℕ → Limits → Result FrameProgress FrameFaultKind
    → List PieceAt → List Turn → NodeState → Result FrameProgress FrameFaultKind → Type 0
TalksBetweenOthers old session limits state [] turns new end =
    (turns ≡ []) × SomeOtherSteps session old new × (end ≡ state)
TalksBetweenOthers old session limits state (piece_at ∷ pieces_at) turns new end =
    (first : List Turn) × (mid : NodeState) × (between : Result FrameProgress FrameFaultKind)
    × SomeOtherSteps session old piece_at.node
    × TakesPiece piece_at.node session (cut_by limits state piece_at.piece) first mid between
    × IsActive mid session
    × ((rest : List Turn) × (turns ≡ first ++ rest)
    × TalksBetweenOthers mid session limits between pieces_at rest new end)

-- A run of such calls.
abbrev pub IsRunBetweenOthers : Run PieceAt → Type 0
IsRunBetweenOthers run =
    TalksBetweenOthers run.old run.session run.limits run.before run.pieces run.turns run.new
    run.after

-- The pieces of a run and of a further call.
abbrev pub pieces_with : Run PieceAt → Call → List PieceAt
pieces_with run call = run.pieces ++ record { node = run.new; piece = call.piece } ∷ []

-- Items, and the node at which the piece that completes them arrived.
pub record ItemsAt : Type 0 where
  pub node : NodeState
  pub items : List TimedItem

-- The items that each of these pieces completes.
abbrev pub items_at_each : Limits → Result FrameProgress FrameFaultKind → List PieceAt
    → List ItemsAt
items_at_each limits state [] = []
items_at_each limits state (piece_at ∷ pieces_at) =
    record { node = piece_at.node; items = (cut_by limits state piece_at.piece).0 }
    ∷ items_at_each limits (cut_by limits state piece_at.piece).1 pieces_at

-- All the items.
abbrev pub items_in : List ItemsAt → List Item
items_in given = flat_map (λ (stretch : ItemsAt). items_without_moments stretch.items) given

-- The turns of a conversation over these items, if operations of other replicas were delivered and
-- other sessions took steps between the pieces that complete them, but not within a piece: the
-- items of a piece are answered from the node at which it arrived, one after another, up to a
-- LOGOUT answered OK, after which the rest is dropped.
abbrev pub ConversesBetweenOthers : NodeState → ℕ → List ItemsAt → List Turn → NodeState → Type 0
ConversesBetweenOthers old session [] turns new = (turns ≡ []) × SomeOtherSteps session old new
ConversesBetweenOthers old session (stretch ∷ given) turns new =
    (first : List Turn)
    × (mid : NodeState)
    × SomeOtherSteps session old stretch.node
    × Converses stretch.node session stretch.items first mid
    × ((IsActive mid session
    × ((rest : List Turn) × (turns ≡ first ++ rest)
    × ConversesBetweenOthers mid session given rest new))
    ⊎ ((¬ IsActive mid session) × (turns ≡ first) × (new ≡ mid)))
