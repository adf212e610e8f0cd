use Rattle.std.proofs.Common.{◌≡◌, ◌+◌, [], ◌∷◌, List, drop, map, refl, ap, subst, sym, ◌∙◌}
use Rattle.tags_clocks.specs.declared.id.OpId.{OpId}
use Rattle.merge_laws.specs.Orders.{HasId}
use Rattle.causal_inbox.specs.CauseIndex.{AreApart, AreIndexed}
use Rattle.causal_inbox.proofs.AscendingLemmas.{element_is_in}
use Rattle.causal_inbox.proofs.Places.{drop_next}
use Rattle.causal_inbox.proofs.CauseCountLemmas.{drop_past_end}
use Rattle.causal_inbox.proofs.held_store.HeldStore.reindex_all_waiting.Goals as goal

pub loop-op-preserved : goal.loop-op-preserved
loop-op-preserved g c =
    let o = g.O.Caused in
    let inv = c.loop-op.invariant in
    let s = c.loop-op.self in
    let ops = c.args.ops.now in
    let i = c.loop-op.op-index in
    let op = c.op-item.result in
    let rest : drop i ops ≡ op ∷ drop (i + 1) ops = drop_next ops i op c.loop-op-test.true c.op-item.is in
    record {
      list = c.reindex_waiting.ensures.list ∙ inv.list;
      indexed = λ applied k m p f.
          let woken = map o.id (drop (i + 1) ops) in
          c.reindex_waiting.ensures.indexed woken applied k
          (subst (HasId o.id applied) (sym c.id.ensures) (m op (element_is_in ops i op c.loop-op-test.true c.op-item.is)))
          (subst (λ xs. AreApart o.id xs applied) (sym inv.list) p)
          (subst (λ (j : OpId). AreIndexed o.id o.clock (j ∷ woken) applied s.list s.entries) (sym c.id.ensures)
          (subst (λ xs. AreIndexed o.id o.clock (map o.id xs) applied s.list s.entries) rest (inv.indexed applied k m p f)));
    }

pub returns-clause-indexed : goal.returns-clause-indexed
returns-clause-indexed g c = λ applied k m p f.
    let o = g.O.Caused in
    subst (λ xs. AreIndexed o.id o.clock (map o.id xs) applied c.loop-op.self.list c.loop-op.self.entries) (drop_past_end c.loop-op.op-index c.args.ops.now c.loop-op-test.false)
    (c.loop-op.invariant.indexed applied k m p f)
