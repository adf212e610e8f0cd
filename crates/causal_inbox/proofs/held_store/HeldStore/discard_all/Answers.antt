use Rattle.std.proofs.Common.{[], subst, arith}
use Rattle.std.proofs.lemmas.List.{take_all}
use Rattle.causal_inbox.specs.Inbox.{AreRemainingHeld}
use Rattle.causal_inbox.proofs.AscendingLemmas.{held_still_step}
use Rattle.causal_inbox.proofs.CauseCountLemmas.{fewer_apart}
use Rattle.causal_inbox.proofs.held_store.HeldStore.discard_all.Goals as goal

pub discard-requires : goal.discard-requires
discard-requires g c =
    let o = g.O.Caused in
    let inv = c.loop-op.invariant in
    let applied = c.requires.0 in (
      applied,
      c.requires.1,
      fewer_apart o.id c.args.self.now.list c.loop-op.self.list applied (λ x h. ((inv.remaining x).0 h).0) c.requires.2,
      inv.indexed [] applied c.requires.3,
    )

pub loop-op-preserved : goal.loop-op-preserved
loop-op-preserved g c =
    let h = c.loop-op.invariant in
    record {
      remaining = held_still_step g.O.Caused.id c.args.ops.now c.loop-op.op-index c.op-item.result c.id.result c.args.self.now.list c.loop-op.self.list c.discard.new.self.list c.loop-op-test.true c.op-item.is c.id.ensures h.remaining c.discard.ensures.others;
      count = let a = c.discard.ensures.count in let b = h.count in omega (arith, a, b);
      indexed = λ woken applied f. c.discard.ensures.indexed woken applied (h.indexed woken applied f);
    }

pub returns-clause-remaining : goal.returns-clause-remaining
returns-clause-remaining g c =
    subst (λ xs. AreRemainingHeld g.O.Caused.id xs c.args.self.now.list c.loop-op.self.list) (take_all _ c.args.ops.now c.loop-op-test.false) c.loop-op.invariant.remaining
