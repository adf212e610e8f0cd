-- Replicas that begin with the operations that another one applied.

use Rattle.std.specs.Prelude.{◌≡◌, ℕ, List, [], ◌∷◌, ◌++◌, Some, None}
use Rattle.causal_inbox.specs.OwnIds.{IsLeastOwn}
use Rattle.crdt_ops.specs.declared.op.Op.{Op}
use Rattle.mail_script.specs.Outcomes.{outcome_line}
use Rattle.mail_script.specs.declared.outcome_line.JoinResult.{JoinResult}
use Rattle.mail_script.specs.declared.outcome_line.JoinResult.TheVariants as results
use Rattle.mail_script.specs.declared.outcome_line.OutcomeLine.TheVariants.{Joined}
use Rattle.mail_replay.specs.Deliveries.{IsDeclaredAt}
use Rattle.mail_replay.specs.ScriptState.{ScriptContents, replica_place}
use Rattle.mail_replay.specs.declared.script_state.ScriptReplica.{ScriptReplica}
use Rattle.imap_node.specs.Nodes.{joined_node}
use Rattle.imap_node.specs.Operations.{id_of}
use Rattle.world_core.specs.Joins.{LacksNumbers}

-- A replica of this name that applied these operations, as if each had been delivered to it in
-- turn, and that has issued none.
abbrev pub IsJoined : ℕ → List Op → ScriptReplica → Type 0
IsJoined name ops replica =
    (replica.name ≡ name) × (replica.node.state ≡ joined_node name ops) × (replica.issued ≡ [])

-- The result that is reported for a replica's join with these operations, and the replicas after
-- it: the new one is added at the end. No replica is added if one of the operations is the new
-- replica's own (the least such id is reported), or if one of its counters lacks a number for
-- one of them; and memory may run out.
abbrev pub JoinsAfter : List ScriptReplica → ℕ → List Op → JoinResult → List ScriptReplica → Type 0
JoinsAfter old name ops results.Done new =
    IsLeastOwn id_of name ops None
    × (¬ LacksNumbers name ops)
    × ((replica : ScriptReplica) × IsJoined name ops replica × (new ≡ old ++ replica ∷ []))
JoinsAfter old name ops (results.Own id) new = IsLeastOwn id_of name ops (Some id) × (new ≡ old)
JoinsAfter old name ops results.Exhausted new =
    IsLeastOwn id_of name ops None × LacksNumbers name ops × (new ≡ old)
JoinsAfter old name ops results.NoMemory new = IsLeastOwn id_of name ops None × (new ≡ old)

-- A replica that isn't declared begins with the operations that a declared one applied, and the
-- result is printed.
abbrev pub JoinsReplica : ScriptContents → ℕ → ℕ → List ℕ → ScriptContents → Type 0
JoinsReplica old name peer more new =
    (at : ℕ) × (from : ScriptReplica) × (status : JoinResult) × (replicas : List ScriptReplica)
    × (replica_place old.replicas name ≡ None) × IsDeclaredAt old peer at from
    × JoinsAfter old.replicas name from.node.state.applied status replicas
    × (more ≡ outcome_line (Joined name peer status)) × (new ≡ record old { replicas = replicas })
