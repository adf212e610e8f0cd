use Rattle.std.proofs.Common.{◌≤◌, List, length, take}
use Rattle.tags_clocks.specs.declared.id.OpId.{OpId}
use Rattle.causal_inbox.specs.Inbox.{AreRemainingHeld}
use Rattle.causal_inbox.specs.CauseIndex.{AreIndexed}
use Rattle.causal_inbox.proofs.held_store.HeldStore.discard_all.Given as goal

abbrev pub invariant-loop-op : goal.invariant-loop-op
invariant-loop-op g l =
    let o = g.O.Caused in
    record {
      remaining : AreRemainingHeld o.id (take l.op-index l.ops) l.fn.self.list l.self.list;
      count : length l.self.list ≤ length l.fn.self.list;
      indexed : (woken : List OpId) (applied : List g.row.O.Denot) → AreIndexed o.id o.clock woken applied l.fn.self.list l.fn.self.entries → AreIndexed o.id o.clock woken applied l.self.list l.self.entries;
    }
