use Rattle.std.proofs.Common.{rules, ◌≡◌, ℕ, List, [], ◌∷◌, ◌++◌, ◌-◌, length, take, drop, sym, ap, subst, false, true, ◌∙◌}
use Rattle.tags_clocks.specs.Clock.{IsCause}
use Rattle.causal_inbox.specs.Inbox.{uncovered_ops}
use Rattle.crdt_ops.specs.declared.op.Op.{Op}
use Rattle.crdt_ops.specs.Ops.{id_of}
use Rattle.link_runtime.proofs.BatchLemmas.{copies_more, uncovered_here}
use Rattle.link_runtime.proofs.op_batch.uncovered_copies.Goals as goal

not_both : (b : _) → b ≡ true → b ≡ false → ⊥
not_both b t f = absurd cc

pub loop-op-preserved : goal.loop-op-preserved
loop-op-preserved c =
    let at = c.loop-op in
    let op = c.op-item.result in
    let clock = c.args.clock.now in
    let ops = c.args.ops.now in
    let new : IsCause clock op.id → ⊥ = λ h. not_both c.covers.result (c.covers.ensures.1 (subst (λ (o : Op). IsCause clock o.id) (sym c.op.ensures.op) h)) c.if-covers.false in
    let front = subst (λ (rest : List Op). at.copies.items ++ take (c.args.limit - length at.copies.items) rest ≡ take c.args.limit (uncovered_ops id_of clock ops)) (uncovered_here clock ops at.op-index op c.loop-op-test.true c.op-item.is new) at.invariant.1 in
    copies_more c.args.limit at.copies.items _ _ _ op (search rules) front
    ((c.in_ok-push.ensures {u = tt}).items ∙ ap (λ (o : Op). at.copies.items ++ o ∷ []) (c.in_ok-copy.ensures {u = tt}))
