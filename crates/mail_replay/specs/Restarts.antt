-- Replicas of a script that start again from the operations that they applied.

use Rattle.std.specs.Prelude.{◌≡◌, ℕ, ◌==◌, None, map, slice_set, if◌then◌else◌}
use Rattle.imap_node.specs.Nodes.{NodeWithRoom}
use Rattle.mail_replay.specs.Deliveries.{IsDeclaredAt}
use Rattle.mail_replay.specs.ScriptState.{ScriptContents}
use Rattle.mail_replay.specs.declared.script_state.ScriptReplica.{ScriptReplica}
use Rattle.mail_replay.specs.declared.script_state.ScriptSession.{ScriptSession}
use Rattle.world_core.specs.Restarts.{restarted_node}

-- A session after the replica of this name started again: that replica's sessions have ended.
abbrev pub session_after_restart : ℕ → ScriptSession → ScriptSession
session_after_restart name session =
    if session.replica == name then record session { connection = None } else session

-- A declared replica starts again from its first numbers and its applied list. What it held is
-- lost, what its sessions issued is still known as that, and all its sessions have ended.
abbrev pub RestartsReplica : ScriptContents → ℕ → ScriptContents → Type 0
RestartsReplica old name new =
    (at : ℕ)
    × (replica : ScriptReplica)
    × (node : NodeWithRoom)
    × IsDeclaredAt old name at replica
    × (node.state ≡ restarted_node replica.node.state)
    × (new ≡ record old {
      replicas = slice_set old.replicas at (record replica { node = node });
      sessions = map (session_after_restart name) old.sessions;
    })
