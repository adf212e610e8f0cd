use Rattle.std.proofs.Common.{◌≡◌, inl, inr, ℕ, ◌+◌, min, List, [], ◌∷◌, drop, length, sym, ap, subst, false, true, ◌∙◌}
use Rattle.std.proofs.lemmas.Bool.{cases_lt}
use Rattle.std.proofs.lemmas.List.{drop_all}
use Rattle.causal_inbox.specs.Inbox.{uncovered_ops}
use Rattle.tags_clocks.specs.declared.id.OpId.{OpId}
use Rattle.tags_clocks.specs.Clock.{IsCause}
use Rattle.crdt_ops.specs.declared.op.Op.{Op}
use Rattle.crdt_ops.specs.Ops.{id_of}
use Rattle.link_runtime.proofs.BatchLemmas.{FrameSoFar, frame_ends, frame_full, frame_more, uncovered_here}
use Rattle.link_runtime.proofs.op_batch.frame_limit.Goals as goal

not_both : (b : _) → b ≡ true → b ≡ false → ⊥
not_both b t f = absurd cc

pub returns-then-is_full : goal.returns-then-is_full
returns-then-is_full c =
    let at = c.loop-op in
    let op = c.op-item.result in
    let clock = c.args.clock.now in
    let ops = c.args.ops.now in
    let new : IsCause clock op.id → ⊥ = λ h. not_both c.covers.result (c.covers.ensures.1 (subst (λ (o : Op). IsCause clock o.id) (sym c.op.ensures.op) h)) c.if-covers.false in
    let so = subst (λ (rest : List Op). FrameSoFar (uncovered_ops id_of clock ops) rest at.count at.octets) (uncovered_here clock ops at.op-index op c.loop-op-test.true c.op-item.is new) at.invariant in
    frame_full _ _ op at.count at.octets c.saturating_add-octets.result so (c.saturating_add-octets.ensures ∙ ap (λ (n : ℕ). min (at.octets + n) 18446744073709551615) c.line_bound.ensures) (c.is_full.ensures.0 c.if-is_full.true)

pub loop-op-preserved : goal.loop-op-preserved
loop-op-preserved c =
    let at = c.loop-op in
    let op = c.op-item.result in
    let clock = c.args.clock.now in
    let ops = c.args.ops.now in
    let new : IsCause clock op.id → ⊥ = λ h. not_both c.covers.result (c.covers.ensures.1 (subst (λ (o : Op). IsCause clock o.id) (sym c.op.ensures.op) h)) c.if-covers.false in
    let so = subst (λ (rest : List Op). FrameSoFar (uncovered_ops id_of clock ops) rest at.count at.octets) (uncovered_here clock ops at.op-index op c.loop-op-test.true c.op-item.is new) at.invariant in
    frame_more _ _ op at.count at.octets c.saturating_add-octets.result so (c.saturating_add-octets.ensures ∙ ap (λ (n : ℕ). min (at.octets + n) 18446744073709551615) c.line_bound.ensures)
    (λ k. not_both c.is_full.result (c.is_full.ensures.1 (inl k)) c.if-is_full.false)
    (λ k. elim (cases_lt 1048576 c.saturating_add-octets.result) [
      | inl l ↦ absurd (not_both c.is_full.result (c.is_full.ensures.1 (inr (k, l))) c.if-is_full.false)
      | inr l ↦ l
    ])

pub returns : goal.returns
returns c =
    let clock = c.args.clock.now in
    let ops = c.args.ops.now in
    frame_ends (uncovered_ops id_of clock ops) c.loop-op.count c.loop-op.octets
    (subst (λ (rest : List Op). FrameSoFar (uncovered_ops id_of clock ops) (uncovered_ops id_of clock rest) c.loop-op.count c.loop-op.octets) (drop_all c.loop-op.op-index ops c.loop-op-test.false) c.loop-op.invariant)
