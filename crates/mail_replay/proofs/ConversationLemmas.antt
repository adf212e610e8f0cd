use Rattle.std.proofs.Common.{rules, ◌≡◌, ℕ, List, Option, None, Some, arith, subst}
use Rattle.std.specs.List.{slice_get}
use Rattle.std.specs.Prelude.{IsNone, IsSome}
use Rattle.imap_connection.specs.Replies.{idling_at}
use Rattle.mail_replay.specs.Lines.{HasFirstUid, IsIdling, IsFeedable}
use Rattle.mail_replay.specs.ScriptState.{ScriptContents, replica_place, session_place}
use Rattle.mail_replay.specs.declared.script_state.Connection.{Connection}
use Rattle.mail_replay.specs.declared.script_state.ScriptReplica.{ScriptReplica}
use Rattle.mail_replay.specs.declared.script_state.ScriptSession.{ScriptSession}
use Rattle.mail_replay.proofs.ScriptStateLemmas.{some_same}
use Rattle.mail_script.specs.Script.{Means}
use Rattle.mail_script.specs.declared.script.ScriptLine.{ScriptLine}
use Rattle.mail_script.specs.declared.script.ScriptLine.TheVariants.{Blank, Node, Now, Open, Line, Send, Poll, Close, Show, Deliver, Forge, Drain, Settle, Agree, Join, Restart}

-- a session has one connection, with one replica
pub one_talking : (setup : ScriptContents) (name : List ℕ) (t u : IsFeedable setup name) → (u.replica ≡ t.replica) × (u.connection ≡ t.connection)
one_talking setup name t u =
    let place : u.place ≡ t.place = some_same (session_place setup.sessions name) u.place t.place u.session_place_is t.session_place_is in
    let session : u.session ≡ t.session =
    some_same (slice_get setup.sessions t.place) u.session t.session (subst (λ (k : ℕ). slice_get setup.sessions k ≡ Some u.session) place u.session_is) t.session_is in
    let at : u.at ≡ t.at =
    some_same (replica_place setup.replicas t.session.replica) u.at t.at (subst (λ (s : ScriptSession). replica_place setup.replicas s.replica ≡ Some u.at) session u.replica_place_is) t.replica_place_is in (
      some_same (slice_get setup.replicas t.at) u.replica t.replica (subst (λ (k : ℕ). slice_get setup.replicas k ≡ Some u.replica) at u.replica_is) t.replica_is,
      some_same t.session.connection u.connection t.connection (subst (λ (s : ScriptSession). s.connection ≡ Some u.connection) session u.connection_is) t.connection_is,
    )

none_some : {X : Type 0} (o : Option X) → IsNone o → IsSome o → ⊥
none_some None n s = search rules
none_some (Some x) n s = search rules

-- a session whose connection doesn't idle doesn't idle
pub not_idling : (setup : ScriptContents) (name : List ℕ) (t : IsFeedable setup name) → IsNone (idling_at t.replica.node.state t.connection.number) → IsIdling setup name → ⊥
not_idling setup name t none i =
    let same = one_talking setup name t i.0 in
    none_some (idling_at t.replica.node.state t.connection.number) none
    (subst (λ (c : Connection). IsSome (idling_at t.replica.node.state c.number)) same.1
    (subst (λ (r : ScriptReplica). IsSome (idling_at r.node.state i.0.connection.number)) same.0 i.1))

-- a line that declares a replica has UIDs from 1
pub has_first_uid : (line : List ℕ) (meaning : ScriptLine) → Means line meaning → HasFirstUid meaning
has_first_uid line Blank h = tt
has_first_uid line (Node replica uid k) h = let positive = h.1.0 in omega (arith, positive)
has_first_uid line (Now moment) h = tt
has_first_uid line (Open replica name) h = tt
has_first_uid line (Line name text) h = tt
has_first_uid line (Send name text) h = tt
has_first_uid line (Poll name) h = tt
has_first_uid line (Close name) h = tt
has_first_uid line (Show replica) h = tt
has_first_uid line (Deliver id replica) h = tt
has_first_uid line (Forge replica operation) h = tt
has_first_uid line (Drain replica) h = tt
has_first_uid line Settle h = tt
has_first_uid line (Agree first second) h = tt
has_first_uid line (Join replica peer) h = tt
has_first_uid line (Restart replica) h = tt
