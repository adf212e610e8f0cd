use Rattle.std.proofs.Common.{◌≡◌, List, drop, map}
use Rattle.merge_laws.specs.Orders.{HasId, IsIn}
use Rattle.causal_inbox.specs.Inbox.{IsClockOf}
use Rattle.causal_inbox.specs.CauseIndex.{AreApart, AreIndexed}
use Rattle.causal_inbox.proofs.held_store.HeldStore.reindex_all_waiting.Given as goal

abbrev pub invariant-loop-op : goal.invariant-loop-op
invariant-loop-op g l =
    let o = g.O.Caused in
    record {
      list : l.self.list ≡ l.fn.self.list;
      indexed : (applied : List g.row.O.Denot) → IsClockOf o.id applied l.clock → ((x : g.row.O.Denot) → IsIn x l.ops → HasId o.id applied (o.id x)) → AreApart o.id l.fn.self.list applied → AreIndexed o.id o.clock (map o.id l.ops) applied l.fn.self.list l.fn.self.entries → AreIndexed o.id o.clock (map o.id (drop l.op-index l.ops)) applied l.self.list l.self.entries;
    }
