use Rattle.std.proofs.Common.{◌≡◌, ◌+◌, ◌≤◌, List, ◌∷◌, Some, length}
use Rattle.tags_clocks.specs.declared.id.OpId.{OpId}
use Rattle.merge_laws.specs.Orders.{HasId}
use Rattle.causal_inbox.specs.Inbox.{IsClockOf}
use Rattle.causal_inbox.specs.CauseIndex.{AreApart, AreIndexed}
use Rattle.causal_inbox.proofs.CauseCountLemmas.{under_count}
use Rattle.causal_inbox.proofs.held_store.HeldStore.reindex_waiting.Given as goal

abbrev pub invariant-loop : goal.invariant-loop
invariant-loop g l =
    let o = g.O.Caused in
    record {
      list : l.self.list ≡ l.fn.self.list;
      cause : l.cause ≡ Some l.fn.id;
      indexed : (woken : List OpId) (applied : List g.row.O.Denot) → IsClockOf o.id applied l.clock → HasId o.id applied l.fn.id → AreApart o.id l.fn.self.list applied → AreIndexed o.id o.clock (l.fn.id ∷ woken) applied l.fn.self.list l.fn.self.entries → AreIndexed o.id o.clock (l.fn.id ∷ woken) applied l.self.list l.self.entries;
      count : (applied : List g.row.O.Denot) → IsClockOf o.id applied l.clock → HasId o.id applied l.fn.id → AreApart o.id l.fn.self.list applied → under_count (Some l.fn.id) l.self.entries + l.counter ≤ l.end;
    }
