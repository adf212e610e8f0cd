-- The effect of each line of a script on the script's state, and the line's output.

use Rattle.std.specs.Prelude.{◌≡◌, ◌≢◌, ◌⊎◌, ℕ, ◌<◌, ◌≤◌, ◌++◌, List, [], ◌∷◌, Option, Some, None}
use Rattle.std.specs.Prelude.{IsSome, IsNone, Ok, drop, length, slice_get, slice_set, take}
use Rattle.crdt_ops.specs.Form.{IsSpelled}
use Rattle.crdt_ops.specs.declared.op.Op.{Op}
use Rattle.imap_lex.specs.Framing.{cut_from, start}
use Rattle.imap_lex.specs.declared.fault.FrameFaultKind.TheVariants as faults
use Rattle.imap_answers.specs.AnswerText.{text_of_answer}
use Rattle.imap_answers.specs.declared.answer.Answer.{Answer}
use Rattle.imap_answers.specs.declared.answer.Answer.TheVariants.{Greeting, Bye}
use Rattle.imap_answers.specs.declared.fixed_words.ByeReason.TheVariants.{TooManySessions}
use Rattle.imap_answers.specs.declared.fixed_words.Login.TheVariants.{PreAuthenticated}
use Rattle.mail_script.specs.Script.{Means}
use Rattle.mail_script.specs.Transcript.{transcript_line}
use Rattle.mail_script.specs.declared.script.ScriptLine.{ScriptLine}
use Rattle.mail_script.specs.declared.script.ScriptLine.TheVariants.{Blank, Node, Now, Open, Line}
use Rattle.mail_script.specs.declared.script.ScriptLine.TheVariants.{Send, Poll, Close, Show}
use Rattle.mail_script.specs.declared.script.ScriptLine.TheVariants.{Deliver, Forge, Drain, Settle}
use Rattle.mail_script.specs.declared.script.ScriptLine.TheVariants.{Agree, Join, Restart}
use Rattle.mail_script.specs.declared.transcript.Speaker.TheVariants.{Server}
use Rattle.imap_node.specs.Nodes.{IsActive, NodeWithRoom, NodeState, with_session_closed}
use Rattle.imap_node.specs.Sessions.{IsOpen, OpensSession}
use Rattle.imap_node.specs.declared.sessions.Auth.TheVariants.{Preauth}
use Rattle.mail_replay.specs.Deliveries.{DeliversTo, DrainsAt, ForgesAt, Issued, with_node}
use Rattle.mail_replay.specs.Exchanges.{ComparesReplicas, SettlesReplicas}
use Rattle.mail_replay.specs.Joins.{JoinsReplica}
use Rattle.mail_replay.specs.Restarts.{RestartsReplica}
use Rattle.mail_replay.specs.ScriptState.{IsNew, ScriptContents, replica_place, session_place}
use Rattle.mail_replay.specs.Transcript.{transcript}
use Rattle.mail_replay.specs.declared.script_state.Connection.{Connection}
use Rattle.mail_replay.specs.declared.script_state.ScriptReplica.{ScriptReplica}
use Rattle.mail_replay.specs.declared.script_state.ScriptSession.{ScriptSession}
use Rattle.imap_connection.specs.Dumps.{IsDump}
use Rattle.imap_connection.specs.Replies.{idling_at}
use Rattle.imap_connection.specs.Talks.{BreaksPoll, EndsTalk, IsPoll, TakesPiece, TimedCut, cut_at}
use Rattle.imap_connection.specs.declared.turn.TalkFaultKind.{TalkFaultKind}
use Rattle.imap_connection.specs.declared.turn.TalkFaultKind.TheVariants.{Framing, NoMemory}
use Rattle.imap_connection.specs.declared.turn.Turn.{Turn}
use Rattle.uid_projection.specs.declared.first_numbers.Counters.{Counters}

-- The end of a line (RFC 9051, section 2.2).
abbrev pub crlf : List ℕ
crlf = 13 ∷ 10 ∷ []

-- A replica's first counters: its name, INBOX's first UID, and the k of the first incarnation of
-- another folder.
abbrev pub start_at : ℕ → ℕ → ℕ → Counters
start_at name uid k = record { replica = name; uid = uid; k = k }

-- A replica with these first counters is declared.
abbrev pub DeclaresReplica : ScriptContents → Counters → ScriptContents → Type 0
DeclaresReplica old first new =
    (replica_place old.replicas first.replica ≡ None)
    × ((replica : ScriptReplica) × IsNew first replica
    × (new ≡ record old { replicas = old.replicas ++ replica ∷ [] }))

-- A replica opens a session and sends the greeting; or, if 1,024 are open, it answers that there
-- are too many sessions, and the session has ended.
abbrev pub BeginsSession : NodeState → Answer → NodeState → Option Connection → Type 0
BeginsSession old answer new (Some connection) =
    OpensSession old.sessions Preauth connection.number new.sessions
    × (new ≡ record old { sessions = new.sessions })
    × (connection.framer
    ≡ record { limits = record { line = 8192; literals = 1048576 }; state = Ok start })
    × (answer ≡ Greeting PreAuthenticated)
BeginsSession old answer new None =
    ((n : ℕ) → 0 < n → n ≤ 1024 → IsOpen old.sessions n)
    × (new ≡ old)
    × (answer ≡ Bye TooManySessions)

-- A conversation ends for a fault of framing, or at a refused line of IDLE, and not because memory
-- ran out partway.
abbrev pub IsReportedEnd : TalkFaultKind → Type 0
IsReportedEnd why = (why ≢ Framing faults.NoMemory) × (why ≢ NoMemory)

-- The commands completed by octets that arrive at a connection at a moment.
abbrev pub cut_at_connection : Connection → ℕ → List ℕ → TimedCut
cut_at_connection connection moment octets =
    cut_at moment (cut_from connection.framer.limits connection.framer.state octets)

-- The effect of octets that arrive at a connection at a moment: the turns of the conversation, and
-- the connection afterwards, whose framer has the same limits; no connection if a LOGOUT was
-- answered OK, the octets can't be framed, or a line of IDLE was refused.
abbrev pub TalksOn : NodeState → Connection → ℕ → List ℕ → List Turn → NodeState → Option Connection
    → Type 0
TalksOn old connection moment octets turns new (Some left) =
    (left.number ≡ connection.number)
    × (left.framer.limits ≡ connection.framer.limits)
    × IsActive new left.number
    × TakesPiece old connection.number (cut_at_connection connection moment octets) turns new
    left.framer.state
TalksOn old connection moment octets turns new None =
    ((IsActive new connection.number → ⊥)
    × ((state : _)
    × TakesPiece old connection.number (cut_at_connection connection moment octets) turns new
    state))
    ⊎ ((why : TalkFaultKind) × IsReportedEnd why
    × EndsTalk why old connection.number connection.framer.state
    (cut_at_connection connection moment octets) turns new)

-- A session that can be fed: it was opened, and has a connection with a declared replica.
pub record IsFeedable (setup : ScriptContents) (name : List ℕ) : Type 0 where
  pub place : ℕ
  pub session : ScriptSession
  pub at : ℕ
  pub replica : ScriptReplica
  pub connection : Connection
  pub session_place_is : session_place setup.sessions name ≡ Some place
  pub session_is : slice_get setup.sessions place ≡ Some session
  pub replica_place_is : replica_place setup.replicas session.replica ≡ Some at
  pub replica_is : slice_get setup.replicas at ≡ Some replica
  pub connection_is : session.connection ≡ Some connection

-- The operations that a node applied after these.
abbrev pub ops_applied_since : NodeState → NodeState → List Op
ops_applied_since old new = drop (length old.applied) new.applied

-- The replica after a conversation: it issued the operations that its node applied meanwhile.
abbrev pub replica_after_talk : ScriptReplica → NodeWithRoom → ScriptReplica
replica_after_talk old node =
    record old { node = node; issued = old.issued ++ ops_applied_since old.node.state node.state }

-- The script's state with this node and this connection in place of a session's.
abbrev pub with_talk : (setup : ScriptContents) (name : List ℕ) → IsFeedable setup name
    → NodeWithRoom
    → Option Connection
    → ScriptContents
with_talk setup name t node left =
    record setup {
      replicas = slice_set setup.replicas t.at (replica_after_talk t.replica node);
      sessions = slice_set setup.sessions t.place (record t.session { connection = left });
    }

-- The session can be fed, and hasn't logged out.
abbrev pub IsTalking : ScriptContents → List ℕ → Type 0
IsTalking setup name =
    (t : IsFeedable setup name) × IsActive t.replica.node.state t.connection.number

-- The session idles: a line of IDLE is awaited (RFC 2177, section 3).
abbrev pub IsIdling : ScriptContents → List ℕ → Type 0
IsIdling setup name =
    (t : IsFeedable setup name) × IsSome (idling_at t.replica.node.state t.connection.number)

-- A session is fed these octets, at the time on the clock: the turns of its conversation are
-- printed.
abbrev pub FeedsSession : ScriptContents → List ℕ → List ℕ → List ℕ → ScriptContents → Type 0
FeedsSession old name octets more new =
    (t : IsFeedable old name)
    × (turns : List Turn)
    × (node : NodeWithRoom)
    × (left : Option Connection)
    × TalksOn t.replica.node.state t.connection old.moment octets turns node.state left
    × (more ≡ transcript name turns)
    × (new ≡ with_talk old name t node left)

-- An idling session is polled: the answers that report changes are printed.
abbrev pub PollsAt : ScriptContents → List ℕ → List ℕ → ScriptContents → Type 0
PollsAt old name more new =
    (t : IsFeedable old name)
    × (turns : List Turn)
    × (node : NodeWithRoom)
    × IsSome (idling_at t.replica.node.state t.connection.number)
    × IsPoll t.replica.node.state t.connection.number turns node.state
    × (more ≡ transcript name turns)
    × (new ≡ with_node old t.at t.replica node)

-- A session is closed.
abbrev pub ClosesSession : ScriptContents → List ℕ → ScriptContents → Type 0
ClosesSession old name new =
    (t : IsFeedable old name)
    × (node : NodeWithRoom)
    × (node.state ≡ with_session_closed t.replica.node.state t.connection.number)
    × (new ≡ record old {
      replicas = slice_set old.replicas t.at (record t.replica { node = node });
      sessions = slice_set old.sessions t.place (record t.session { connection = None });
    })

-- A replica opens a session, and its first answer is printed.
abbrev pub OpensAt : ScriptContents → ℕ → List ℕ → List ℕ → ScriptContents → Type 0
OpensAt old replica name more new =
    (session_place old.sessions name ≡ None)
    × ((at : ℕ) × (host : ScriptReplica) × (node : NodeWithRoom) × (answer : Answer)
    × (connection : Option Connection)
    × (replica_place old.replicas replica ≡ Some at)
    × (slice_get old.replicas at ≡ Some host)
    × BeginsSession host.node.state answer node.state connection
    × (more ≡ transcript_line name Server (text_of_answer answer))
    × (new ≡ record old {
      replicas = slice_set old.replicas at (record host { node = node });
      sessions =
          old.sessions ++ record { name = name; replica = replica; connection = connection } ∷ [];
    }))

-- The dump of a replica is printed.
abbrev pub ShowsDump : ScriptContents → ℕ → List ℕ → Type 0
ShowsDump setup name more =
    (at : ℕ)
    × (replica : ScriptReplica)
    × (replica_place setup.replicas name ≡ Some at)
    × (slice_get setup.replicas at ≡ Some replica)
    × IsDump replica.node.state.start.replica replica.node.state.applied more

-- The effect of a line on the script's state, and the line's output.
abbrev pub ServesLine : ScriptContents → ScriptLine → List ℕ → ScriptContents → Type 0
ServesLine old Blank more new = (more ≡ []) × (new ≡ old)
ServesLine old (Node replica uid k) more new =
    (more ≡ []) × DeclaresReplica old (start_at replica uid k) new
ServesLine old (Now moment) more new = (more ≡ []) × (new ≡ record old { moment = moment })
ServesLine old (Open replica name) more new = OpensAt old replica name more new
ServesLine old (Line name text) more new = FeedsSession old name (text ++ crlf) more new
ServesLine old (Send name text) more new = FeedsSession old name text more new
ServesLine old (Poll name) more new = PollsAt old name more new
ServesLine old (Close name) more new = (more ≡ []) × ClosesSession old name new
ServesLine old (Show replica) more new = ShowsDump old replica more × (new ≡ old)
ServesLine old (Deliver id replica) more new = DeliversTo old id replica more new
ServesLine old (Forge replica operation) more new = ForgesAt old replica operation more new
ServesLine old (Drain replica) more new = DrainsAt old replica more new
ServesLine old Settle more new = SettlesReplicas old more new
ServesLine old (Agree first second) more new = ComparesReplicas old first second more × (new ≡ old)
ServesLine old (Join replica peer) more new = JoinsReplica old replica peer more new
ServesLine old (Restart replica) more new = (more ≡ []) × RestartsReplica old replica new

-- A line that can't be served in this state: it names something that isn't declared, or declares
-- something that is, or names a session that has ended or an operation that was never issued, or
-- polls a session that doesn't idle, or its text spells no operation.
abbrev pub IsMisplaced : ScriptContents → ScriptLine → Type 0
IsMisplaced setup Blank = ⊥
IsMisplaced setup (Node replica uid k) = IsSome (replica_place setup.replicas replica)
IsMisplaced setup (Now moment) = ⊥
IsMisplaced setup (Open replica name) =
    IsNone (replica_place setup.replicas replica) ⊎ IsSome (session_place setup.sessions name)
IsMisplaced setup (Line name text) = IsTalking setup name → ⊥
IsMisplaced setup (Send name text) = IsTalking setup name → ⊥
IsMisplaced setup (Poll name) = IsIdling setup name → ⊥
IsMisplaced setup (Close name) = IsTalking setup name → ⊥
IsMisplaced setup (Show replica) = IsNone (replica_place setup.replicas replica)
IsMisplaced setup (Deliver id replica) =
    IsNone (replica_place setup.replicas replica) ⊎ ((op : Op) → Issued setup id op → ⊥)
IsMisplaced setup (Forge replica operation) =
    IsNone (replica_place setup.replicas replica) ⊎ ((op : Op) → IsSpelled op operation → ⊥)
IsMisplaced setup (Drain replica) = IsNone (replica_place setup.replicas replica)
IsMisplaced setup Settle = ⊥
IsMisplaced setup (Agree first second) =
    IsNone (replica_place setup.replicas first) ⊎ IsNone (replica_place setup.replicas second)
IsMisplaced setup (Join replica peer) =
    IsSome (replica_place setup.replicas replica) ⊎ IsNone (replica_place setup.replicas peer)
IsMisplaced setup (Restart replica) = IsNone (replica_place setup.replicas replica)

-- A line that can't be served in this state, whatever its meaning.
abbrev pub IsBad : ScriptContents → List ℕ → Type 0
IsBad setup line = (meaning : ScriptLine) → Means line meaning → IsMisplaced setup meaning

-- ---- the output if memory runs out

-- The turns that result from octets: all of them, or those until a fault or lack of memory ends the
-- conversation.
abbrev pub HasTurns : NodeState → Connection → ℕ → List ℕ → List Turn → Type 0
HasTurns old connection moment octets turns =
    ((new : NodeState) × (state : _)
    × TakesPiece old connection.number (cut_at_connection connection moment octets) turns new state)
    ⊎ ((why : TalkFaultKind) × (new : NodeState)
    × EndsTalk why old connection.number connection.framer.state
    (cut_at_connection connection moment octets) turns new)

-- A session is fed these octets, and some of the first turns of its conversation are printed.
abbrev pub FeedsInPart : ScriptContents → List ℕ → List ℕ → List ℕ → Type 0
FeedsInPart setup name octets more =
    (t : IsFeedable setup name) × (turns : List Turn) × (count : ℕ)
    × HasTurns t.replica.node.state t.connection setup.moment octets turns
    × (more ≡ transcript name (take count turns))

-- The turns of a poll: all of them, or those before the one for which memory runs out.
abbrev pub HasPolledTurns : NodeState → ℕ → List Turn → Type 0
HasPolledTurns old session turns =
    ((new : NodeState) × IsPoll old session turns new)
    ⊎ ((new : NodeState) × BreaksPoll old session turns new)

-- A session is polled, and some of the first answers are printed.
abbrev pub PollsInPart : ScriptContents → List ℕ → List ℕ → Type 0
PollsInPart setup name more =
    (t : IsFeedable setup name) × (turns : List Turn) × (count : ℕ)
    × HasPolledTurns t.replica.node.state t.connection.number turns
    × (more ≡ transcript name (take count turns))

-- The output of a line if memory runs out partway: the first answer of a session that is opened but
-- not stored, or some of the first turns of a session that is fed or polled.
abbrev pub PrintsInPart : ScriptContents → ScriptLine → List ℕ → Type 0
PrintsInPart setup (Open replica name) more =
    (new : ScriptContents) × OpensAt setup replica name more new
PrintsInPart setup (Line name text) more = FeedsInPart setup name (text ++ crlf) more
PrintsInPart setup (Send name text) more = FeedsInPart setup name text more
PrintsInPart setup (Poll name) more = PollsInPart setup name more
PrintsInPart setup meaning more = ⊥

-- The output of a line for which memory runs out: nothing, or a part.
abbrev pub ServesInPart : ScriptContents → List ℕ → List ℕ → Type 0
ServesInPart setup line more =
    (more ≡ []) ⊎ ((meaning : ScriptLine) × Means line meaning × PrintsInPart setup meaning more)

-- ---- a bound on what lines say

-- If the line declares a replica, its first UID isn't 0.
abbrev pub HasFirstUid : ScriptLine → Type 0
HasFirstUid (Node replica uid k) = 1 ≤ uid
HasFirstUid meaning = Unit {0}
