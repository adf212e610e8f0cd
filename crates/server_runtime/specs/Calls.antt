-- What a connection's calls do at its replica, by the passes and by the positions before and after
-- them.

use Rattle.std.specs.Prelude.{◌≡◌, ◌⊎◌, ◌≤◌, ℕ, Bool, true, false, List, [], Option, None, Some}
use Rattle.std.specs.Prelude.{Result, Ok, Err}
use Rattle.std.specs.List.{flat_map}
use Rattle.imap_answers.specs.AnswerText.{text_of_answer}
use Rattle.imap_answers.specs.declared.fixed_words.Login.{Login}
use Rattle.imap_answers.specs.declared.fixed_words.Refusal.TheVariants.{NoStoreRoom}
use Rattle.imap_node.specs.declared.reply.Reply.{Reply}
use Rattle.imap_node.specs.declared.reply.Reply.TheVariants.{Refused}
use Rattle.imap_node.specs.declared.sessions.OpenFault.TheVariants as refusals
use Rattle.imap_syntax.specs.declared.command.Tagged.{Tagged}
use Rattle.server_runtime.specs.Logins.{auth_of, login_of}
use Rattle.server_runtime.specs.declared.session_port.SessionPosition.{SessionPosition}
use Rattle.server_settings.specs.declared.settings.Access.{Access}
use Rattle.imap_connection.specs.PortCalls.{PortCall}
use Rattle.imap_connection.specs.PortCalls as calls
use Rattle.imap_connection.specs.declared.fault.PortFault.{PortFault}
use Rattle.imap_connection.specs.declared.fault.PortFault.TheVariants.{TooManySessions}
use Rattle.imap_connection.specs.Replies.{polled_answers}
use Rattle.replica_lock.specs.Passes.{PassState, IsCalled, IsCalledIn, LacksRoomInSession}
use Rattle.replica_lock.specs.declared.event.BookEvent.{BookEvent}
use Rattle.replica_lock.specs.declared.event.BookEvent.TheVariants as events
use Rattle.replica_lock.specs.declared.faults.CallFault.TheVariants as faults
use Rattle.replica_lock.specs.declared.outcome.Outcome.{Outcome}
use Rattle.replica_lock.specs.declared.outcome.Outcome.TheVariants.{Opened, Replied}

-- Whether a replica has a store.
abbrev pub stores : {A : Type 0} → Option A → Bool
stores None = false
stores (Some store) = true

-- A pass made one call with this event, or none.
abbrev pub CallsOnce : PassState → BookEvent → PassState → Type 0
CallsOnce p event q = (q ≡ p) ⊎ IsCalled p event q

-- A pass made one call with this event of its own session, or none.
abbrev pub CallsOnceIn : PassState → (ℕ → BookEvent) → PassState → Type 0
CallsOnceIn p event q = (q ≡ p) ⊎ IsCalledIn p event q

-- A pass made one call with this command in its session, at some moment, or none.
abbrev pub CommandsOnce : PassState → Tagged → PassState → Type 0
CommandsOnce p tagged q =
    (q ≡ p) ⊎ ((moment : ℕ) × IsCalledIn p (λ n. events.Command n moment tagged) q)

-- The session of a pass was closed by one call, or it had none.
abbrev pub IsClosedIn : PassState → PassState → Type 0
IsClosedIn p q = ((p.session ≡ None) × (q ≡ p)) ⊎ IsCalledIn p (λ n. events.Close n) q

-- The text of the answers to the poll with this outcome, one after another; empty if the poll was
-- refused.
abbrev pub text_of_poll : Option Outcome → List ℕ
text_of_poll (Some (Replied reply)) = flat_map text_of_answer (polled_answers reply)
text_of_poll _ = []

-- The result of opening a session, by the pass before and after: it was opened by one such call,
-- and the greeting has the login; or one such call was refused, since there are too many sessions;
-- or, for another reason, no session was opened.
abbrev pub OpensIn : Access → PassState → Result Login PortFault → PassState → Type 0
OpensIn access p (Ok login) q =
    (login ≡ login_of access)
    × IsCalled p (events.Open (auth_of access)) q
    × ((n : ℕ) × (q.last ≡ Some (Opened (Ok n))))
OpensIn access p (Err TooManySessions) q =
    IsCalled p (events.Open (auth_of access)) q
    × (q.last ≡ Some (Opened (Err refusals.TooManySessions)))
OpensIn access p (Err fault) q = Unit {0}

-- The outcome of one call with exactly this command, at some moment, in the session of the pass.
abbrev pub IsCarriedOut : PassState → Tagged → Reply → PassState → Type 0
IsCarriedOut p tagged reply q =
    (moment : ℕ)
    × IsCalledIn p (λ n. events.Command n moment tagged) q
    × (q.last ≡ Some (Replied reply))

-- At some node and moment, the log of a replica lacks room for the operations that a command would
-- issue in the session of the pass.
abbrev pub LacksStoreRoom : PassState → Tagged → Type 0
LacksStoreRoom p tagged =
    (moment : ℕ)
    × (octets : ℕ)
    × LacksRoomInSession p (λ n. events.Command n moment tagged) (faults.NoStoreRoom octets)

-- A command for whose operations the replica's store has no room is refused, and no call is made.
abbrev pub IsRefusedForRoom : PassState → Tagged → Reply → PassState → Type 0
IsRefusedForRoom p tagged reply q =
    (reply ≡ Refused NoStoreRoom false) × (q ≡ p) × LacksStoreRoom p tagged

-- The result of a command, or of a line of IDLE, by the pass before and after, at a replica with or
-- without a store: the outcome of one call with exactly this command, at some moment, or with
-- exactly this line, in the session of the pass; or the refusal of a command for which the store
-- has no room.
abbrev pub StepsIn : Bool → PassState → PortCall → Result Reply PortFault → PassState → Type 0
StepsIn stores p (calls.Command tagged) (Ok reply) q =
    IsCarriedOut p tagged reply q ⊎ ((stores ≡ true) × IsRefusedForRoom p tagged reply q)
StepsIn stores p (calls.Line line) (Ok reply) q =
    IsCalledIn p (λ n. events.Line n line) q × (q.last ≡ Some (Replied reply))
StepsIn stores p call (Err fault) q = Unit {0}

-- The result of a command or line, by at most one call.
abbrev pub StepsOnce : Bool → PassState → PortCall → Result Reply PortFault → PassState → Type 0
StepsOnce stores p (calls.Command tagged) response q =
    StepsIn stores p (calls.Command tagged) response q × CommandsOnce p tagged q
StepsOnce stores p (calls.Line line) response q =
    StepsIn stores p (calls.Line line) response q × CallsOnceIn p (λ n. events.Line n line) q

-- A pass opened a session for a connection, after the pass had seen the journal at least up to the
-- connection's position; the connection's new position is the pass's.
abbrev pub BeginsFrom : SessionPosition → PassState → PassState → SessionPosition → Type 0
BeginsFrom from p q to = (from.seen ≤ p.seen) × (to.session ≡ q.session) × (to.seen ≡ q.seen)

-- A pass had the session of a connection, and had seen the journal at least up to the connection's
-- position; it has now seen the journal up to the connection's new position, in the same session.
abbrev pub ContinuesFrom : SessionPosition → PassState → PassState → SessionPosition → Type 0
ContinuesFrom from p q to =
    (from.session ≡ p.session)
    × (from.seen ≤ p.seen)
    × (to.session ≡ from.session)
    × (to.seen ≡ q.seen)

-- The result of opening a connection's session is that of a call of some pass, between these
-- positions in the journal.
abbrev pub OpensByCall : Access → SessionPosition → Result Login PortFault → SessionPosition
    → Type 0
OpensByCall access from (Ok login) to =
    (p : PassState) × (q : PassState) × BeginsFrom from p q to × OpensIn access p (Ok login) q
OpensByCall access from (Err TooManySessions) to =
    (p : PassState)
    × (q : PassState)
    × BeginsFrom from p q to
    × OpensIn access p (Err TooManySessions) q
OpensByCall access from (Err fault) to = Unit {0}

-- The result of a command, or of a line of IDLE, is that of a call of some pass in the connection's
-- session, between these positions in the journal: the call's entry is at the second, after the
-- first; at a replica with a store it may be the refusal of a command for which the store has no
-- room. After a fault the session is the same, and the position isn't before the first.
abbrev pub StepsByCall : Bool → SessionPosition → PortCall → Result Reply PortFault
    → SessionPosition → Type 0
StepsByCall stores from call (Ok reply) to =
    (p : PassState) × (q : PassState) × ContinuesFrom from p q to
    × StepsIn stores p call (Ok reply) q
StepsByCall stores from call (Err fault) to = (to.session ≡ from.session) × (from.seen ≤ to.seen)
