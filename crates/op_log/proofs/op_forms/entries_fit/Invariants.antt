use Rattle.std.proofs.Common.{ℕ, ◌≤◌, drop}
use Rattle.crdt_ops.specs.Form.{Each, IsReplica}
use Rattle.op_log.proofs.op_forms.entries_fit.Given as goal

abbrev pub invariant-loop-replica : goal.invariant-loop-replica
invariant-loop-replica l =
    Each (λ (entry : ℕ × ℕ). IsReplica entry.0 × (entry.1 ≤ 4294967295)) (drop l.replica-index l.entries)
    → Each (λ (entry : ℕ × ℕ). IsReplica entry.0 × (entry.1 ≤ 4294967295)) l.entries
