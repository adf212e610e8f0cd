use Rattle.std.proofs.Common.{◌≡◌, ℕ, ◌≤◌, Some, length, slice_get, take}
use Rattle.merge_laws.specs.Orders.{IsIn}
use Rattle.causal_inbox.specs.InboxState.{IsNextId, LacksNextId}
use Rattle.causal_inbox.proofs.history.place_of_uncovered.Given as goal

abbrev pub invariant-loop-replica : goal.invariant-loop-replica
invariant-loop-replica l = record {
  within : l.first ≤ length l.ids.keys;
  lacks : (e : ℕ × ℕ) → IsIn e (take l.replica-index l.counted) → LacksNextId l.clock (take l.first l.ids.keys) e;
  next : (id : ℕ × ℕ) → slice_get l.ids.keys l.first ≡ Some id → IsNextId l.clock id;
}
