-- The state that a script has built up: its clock, its replicas and its sessions.

use Rattle.std.specs.Prelude.{◌≡◌, ℕ, ◌+◌, ◌==◌, List, [], ◌∷◌, Option, Some, None, if◌then◌else◌}
use Rattle.std.specs.Str.{bytes_eq}
use Rattle.mail_replay.specs.declared.script_state.ScriptReplica.{ScriptReplica}
use Rattle.mail_replay.specs.declared.script_state.ScriptSession.{ScriptSession}
use Rattle.mail_replay.specs.declared.script_state.ScriptState.{ScriptState}
use Rattle.uid_projection.specs.declared.first_numbers.Counters.{Counters}

-- The state that a script has built up: the time on its clock, the replicas in the order in which
-- they were declared, and the sessions in the order in which they were opened.
pub record ScriptContents : Type 0 where
  pub moment : ℕ
  pub replicas : List ScriptReplica
  pub sessions : List ScriptSession

-- The contents of a script's state.
abbrev pub script_contents_of : ScriptState → ScriptContents
script_contents_of setup =
    record {
      moment = setup.moment;
      replicas = setup.replicas.items;
      sessions = setup.sessions.items;
    }

-- A replica that has received nothing and has these first counters.
abbrev pub IsNew : Counters → ScriptReplica → Type 0
IsNew first replica =
    (replica.name ≡ first.replica)
    × (replica.node.state ≡ record { start = first; applied = []; held = []; sessions = [] })
    × (replica.issued ≡ [])

-- The place of the first replica with this name, if the first of the list has the given place.
abbrev pub replica_from : ℕ → List ScriptReplica → ℕ → Option ℕ
replica_from place [] name = None
replica_from place (replica ∷ replicas) name =
    if replica.name == name then Some place else replica_from (place + 1) replicas name

-- The place of the replica with this name.
abbrev pub replica_place : List ScriptReplica → ℕ → Option ℕ
replica_place replicas name = replica_from 0 replicas name

-- The place of the first session with this name, if the first of the list has the given place.
abbrev pub session_from : ℕ → List ScriptSession → List ℕ → Option ℕ
session_from place [] name = None
session_from place (session ∷ sessions) name =
    if bytes_eq session.name name then Some place else session_from (place + 1) sessions name

-- The place of the session with this name.
abbrev pub session_place : List ScriptSession → List ℕ → Option ℕ
session_place sessions name = session_from 0 sessions name
