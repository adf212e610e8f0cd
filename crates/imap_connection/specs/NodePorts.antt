-- A node as a port: a session is opened, called and closed at the node, while others use it.

use Rattle.std.specs.Prelude.{◌≡◌, ◌⊎◌, ℕ, List, [], ◌∷◌, ◌++◌, Option, Some, None, Result, Ok, Err}
use Rattle.causal_inbox.specs.declared.delivery.Arrival.{Arrival}
use Rattle.causal_inbox.specs.declared.delivery.DeliverFault.{DeliverFault}
use Rattle.crdt_ops.specs.declared.op.Op.{Op}
use Rattle.imap_answers.specs.declared.fixed_words.Login.{Login}
use Rattle.imap_answers.specs.declared.fixed_words.Login.TheVariants.{PreAuthenticated, Required}
use Rattle.imap_node.specs.Deliveries.{Delivers, IsRefusedAt}
use Rattle.imap_node.specs.Nodes.{IsAwaitedInput, IsIdlingAt, NodeState, with_session_closed}
use Rattle.imap_node.specs.Responses.{Responds}
use Rattle.imap_node.specs.Sessions.{IsOpen, OpensSession}
use Rattle.imap_node.specs.Steps.{IsFull}
use Rattle.imap_node.specs.declared.input.Input.{Input}
use Rattle.imap_node.specs.declared.input.Input.TheVariants as inputs
use Rattle.imap_node.specs.declared.reply.Reply.{Reply}
use Rattle.imap_node.specs.declared.sessions.Auth.{Auth}
use Rattle.imap_node.specs.declared.sessions.Auth.TheVariants.{Preauth, Password}
use Rattle.imap_connection.specs.Streams.{SomeOtherSteps}
use Rattle.imap_connection.specs.PortCalls.{PortCall}
use Rattle.imap_connection.specs.PortCalls as asked
use Rattle.imap_connection.specs.declared.fault.PortFault.{PortFault}
use Rattle.imap_connection.specs.declared.fault.PortFault.TheVariants.{NoMemory, PassedOver}
use Rattle.imap_connection.specs.declared.fault.PortFault.TheVariants.{TooManySessions}

-- A node, the way in which its session's user becomes known (`None` once the session was opened or
-- couldn't be), the session, and the others who use the node.
pub record NodeSession (O : Type 0) : Type 0 where
  pub node : NodeState
  pub auth : Option Auth
  pub session : Option ℕ
  pub others : O

-- No session is open.
abbrev pub HasNoSession : {O : Type 0} → NodeSession O → Type 0
HasNoSession {O} s = (n : ℕ) → s.session ≡ Some n → IsOpen s.node.sessions n → ⊥

-- The session awaits this call: a command if it is open and doesn't idle, a line if it idles.
abbrev pub AwaitsCall : {O : Type 0} → NodeSession O → PortCall → Type 0
AwaitsCall {O} s (asked.Command tagged) =
    (n : ℕ) × (s.session ≡ Some n) × IsOpen s.node.sessions n × (IsIdlingAt s.node n → ⊥)
AwaitsCall {O} s (asked.Line line) = (n : ℕ) × (s.session ≡ Some n) × IsIdlingAt s.node n

-- The login that a greeting reports, by authentication (RFC 9051, section 7.1.4).
abbrev pub login_of : Auth → Login
login_of Preauth = PreAuthenticated
login_of (Password credentials) = Required

-- Why no session was opened: all session numbers are in use; memory ran out; or it isn't the first
-- attempt.
abbrev pub IsUnopened : {O : Type 0} → NodeSession O → PortFault → Type 0
IsUnopened {O} old TooManySessions = IsFull old.node
IsUnopened {O} old NoMemory = Unit {0}
IsUnopened {O} old PassedOver = old.auth ≡ None
IsUnopened {O} old fault = ⊥

-- The node before and after its session is opened: the session is opened for a user who becomes
-- known by `auth`, or nothing changes at the node. There is only one attempt.
abbrev pub NodeOpens : {O : Type 0} → NodeSession O → Result Login PortFault → NodeSession O
    → Type 0
NodeOpens {O} old (Err fault) new =
    (new.node ≡ old.node)
    × (new.session ≡ old.session)
    × (new.others ≡ old.others)
    × (new.auth ≡ None)
    × IsUnopened old fault
NodeOpens {O} old (Ok login) new =
    (auth : Auth)
    × (n : ℕ)
    × (login ≡ login_of auth)
    × (new.session ≡ Some n)
    × OpensSession old.node.sessions auth n new.node.sessions
    × (new.node ≡ record old.node { sessions = new.node.sessions })
    × (new.others ≡ old.others)
    × (old.auth ≡ Some auth)
    × (new.auth ≡ None)

-- `takes_turn` is a turn of the others: their state before it, the session, the node before it, the
-- moment at which the session's next command arrives, the node after it, and their state after it.
module _ {O : Type 0} (takes_turn : O → ℕ → NodeState → ℕ → NodeState → O → Type 0) where
  -- Others took a turn at the node of a port, during its session: the node changed exactly as
  -- `takes_turn` says, by deliveries and steps of other sessions.
  pub record TakesTurn (old : NodeSession O) (n : ℕ) (moment : ℕ) (mid : NodeState) (others : O) :
      Type 0 where
    pub other_steps : SomeOtherSteps n old.node mid
    pub exact : takes_turn old.others n old.node moment mid others

  -- The session awaited the port's input; others took a turn, and then the node responded to the
  -- input as defined.
  pub record RespondsTo (old : NodeSession O) (input : ℕ → Input) (reply : Reply)
      (new : NodeSession O) : Type 0 where
    pub number : ℕ
    pub moment : ℕ
    pub mid : NodeState
    pub opened : old.session ≡ Some number
    pub awaited : IsAwaitedInput old.node number (input moment)
    pub turn : TakesTurn old number moment mid new.others
    pub responds : Responds mid number (input moment) reply new.node
    pub session : new.session ≡ Some number
    pub auth : new.auth ≡ old.auth

  -- The node before and after a call, and its reply. If the session doesn't await the call, it is
  -- passed over, and nothing changes.
  abbrev pub NodeSteps : NodeSession O → PortCall → Result Reply PortFault → NodeSession O → Type 0
  NodeSteps old call (Err fault) new =
      (fault ≡ PassedOver) × (new ≡ old) × (AwaitsCall old call → ⊥)
  NodeSteps old (asked.Command tagged) (Ok reply) new =
      RespondsTo old (λ moment. inputs.Command moment tagged) reply new
  NodeSteps old (asked.Line line) (Ok reply) new =
      RespondsTo old (λ moment. inputs.Line line) reply new

  -- Others took a turn, and then the session was closed.
  pub record ClosesSession (old : NodeSession O) (new : NodeSession O) : Type 0 where
    pub number : ℕ
    pub moment : ℕ
    pub mid : NodeState
    pub opened : old.session ≡ Some number
    pub is_open : IsOpen old.node.sessions number
    pub turn : TakesTurn old number moment mid new.others
    pub closes : new.node ≡ with_session_closed mid number
    pub session : new.session ≡ None
    pub auth : new.auth ≡ old.auth

  -- The node before and after the close: the session is closed, if one is open.
  abbrev pub NodeCloses : NodeSession O → NodeSession O → Type 0
  NodeCloses old new = (HasNoSession old × (new ≡ old)) ⊎ ClosesSession old new

-- ---- others

-- Nobody else uses the node, and commands arrive at this moment.
abbrev pub IsEmptyTurn : ℕ → ℕ → NodeState → ℕ → NodeState → ℕ → Type 0
IsEmptyTurn old n node moment mid new = (moment ≡ old) × (mid ≡ node) × (new ≡ old)

-- An operation was delivered to a node, which received or refused it.
abbrev pub IsDeliveredOrRefused : NodeState → Op → NodeState → Type 0
IsDeliveredOrRefused node op mid =
    ((arrival : Arrival) × Delivers node op arrival mid)
    ⊎ ((why : DeliverFault) × IsRefusedAt node op why × (mid ≡ node))

-- The last of these operations was delivered to the node, and those before it are left; or there
-- are none.
abbrev pub LastIsDelivered : List Op → NodeState → NodeState → List Op → Type 0
LastIsDelivered ops node mid left =
    ((ops ≡ []) × (left ≡ []) × (mid ≡ node))
    ⊎ ((op : Op) × (ops ≡ left ++ op ∷ []) × IsDeliveredOrRefused node op mid)
