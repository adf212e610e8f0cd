-- Comparisons of replicas, and exchanges of operations between all of them.

use Rattle.std.specs.Prelude.{◌≡◌, ◌↔◌, ℕ, Bool, IsTrue, List, [], ◌∷◌, map, MatchResult, Result}
use Rattle.std.specs.Prelude.{Ok, Err}
use Rattle.imap_node.specs.Nodes.{NodeWithRoom}
use Rattle.mail_script.specs.Outcomes.{outcome_line}
use Rattle.mail_script.specs.declared.outcome_line.OutcomeLine.TheVariants.{Agreed, Settled}
use Rattle.mail_script.specs.declared.outcome_line.SettleResult.{SettleResult}
use Rattle.mail_script.specs.declared.outcome_line.SettleResult.TheVariants as results
use Rattle.mail_replay.specs.Deliveries.{IsDeclaredAt}
use Rattle.mail_replay.specs.ScriptState.{ScriptContents}
use Rattle.mail_replay.specs.declared.script_state.ScriptReplica.{ScriptReplica}
use Rattle.merge_laws.specs.Orders.{HaveSameElements}
use Rattle.world_core.specs.Replicas.{all_without_room}
use Rattle.world_core.specs.Settlement.{AllTakeSomeOf, AreAgreed, AreSettled, AreUnsettled}
use Rattle.world_core.specs.Settlement.{IsReceivedBy}
use Rattle.world_core.specs.declared.settlement.SettleFault.{SettleFault}
use Rattle.world_core.specs.declared.settlement.SettleFault.TheVariants as faults

-- The line printed for two replicas: whether they applied the same operations.
abbrev pub ComparesReplicas : ScriptContents → ℕ → ℕ → List ℕ → Type 0
ComparesReplicas setup first second more =
    (at : ℕ) × (one : ScriptReplica) × (by : ℕ) × (other : ScriptReplica) × (same : Bool)
    × IsDeclaredAt setup first at one × IsDeclaredAt setup second by other
    × (IsTrue same ↔ HaveSameElements one.node.state.applied other.node.state.applied)
    × (more ≡ outcome_line (Agreed first second same))

-- The nodes of replicas, in order.
abbrev pub nodes_in : List ScriptReplica → List NodeWithRoom
nodes_in replicas = map (λ (replica : ScriptReplica). replica.node) replicas

-- The replicas with these nodes in place of theirs.
abbrev pub with_nodes : List ScriptReplica → List NodeWithRoom → List ScriptReplica
with_nodes [] nodes = []
with_nodes (replica ∷ replicas) [] = replica ∷ replicas
with_nodes (replica ∷ replicas) (node ∷ nodes) =
    record replica { node = node } ∷ with_nodes replicas nodes

-- The result that is reported for an exchange between all replicas.
abbrev pub settle_line : Result (Unit {0}) SettleFault → SettleResult
settle_line (Ok done) = results.Done
settle_line (Err (faults.Conflict id)) = results.Conflict id
settle_line (Err faults.Exhausted) = results.Exhausted
settle_line (Err faults.NoMemory) = results.NoMemory

-- Replicas exchange the operations that they received, applied or held, until all have applied the
-- same set; otherwise the reason why they can't is reported. In either case each replica receives
-- only operations that some of them had received, and loses none.
abbrev pub ExchangesOps : List ScriptReplica → SettleResult → List ScriptReplica → Type 0
ExchangesOps old out new =
    (nodes : List NodeWithRoom) × (answer : Result (Unit {0}) SettleFault)
    × MatchResult answer
    (λ done. AreAgreed (all_without_room (nodes_in old))
    × AreSettled (all_without_room (nodes_in old)) (all_without_room nodes))
    (λ why. AreUnsettled (all_without_room (nodes_in old)) why (all_without_room nodes))
    × AllTakeSomeOf (IsReceivedBy (all_without_room (nodes_in old)))
    (all_without_room (nodes_in old)) (all_without_room nodes)
    × (out ≡ settle_line answer) × (new ≡ with_nodes old nodes)

-- All replicas exchange the operations that they received, and the result is printed.
abbrev pub SettlesReplicas : ScriptContents → List ℕ → ScriptContents → Type 0
SettlesReplicas old more new =
    (out : SettleResult) × (replicas : List ScriptReplica)
    × ExchangesOps old.replicas out replicas
    × (more ≡ outcome_line (Settled out))
    × (new ≡ record old { replicas = replicas })
