use Rattle.std.proofs.Common.{◌≡◌, ◌+◌, ◌-◌, ◌<◌, List, ◌++◌, [], Some, length, slice_get, take, sym, ap, ◌∙◌, subst, arith}
use Rattle.std.proofs.lemmas.Option.{slice_get-get_or}
use Rattle.tags_clocks.specs.declared.id.OpId.{OpId}
use Rattle.tags_clocks.specs.Clock.{IsRaised}
use Rattle.causal_inbox.specs.InboxState.{InboxState, IsNextId, id_numbers}
use Rattle.causal_inbox.specs.Inbox.{uncovered_ops}
use Rattle.causal_inbox.proofs.UncoveredLemmas.{copies_end, copies_next, none_to_end, none_within}
use Rattle.causal_inbox.proofs.inbox.Inbox.ops_after.Goals.{then-first-within-via-then-first-within, then-first-within-via-else-first-within+then-first-ops}
use Rattle.causal_inbox.proofs.inbox.Inbox.ops_after.Goals as goal

pub returns-then-first-within : goal.returns-then-first-within
returns-then-first-within g c =
    let o = g.R.Op.Caused in
    let all = c.args.self.now.received.applied in
    let first = c.first_uncovered-first.result in
    let covered = c.loop.covered in
    let none : uncovered_ops o.id covered (take first all) ≡ [] = subst (λ (k : InboxState _ _ _ _). uncovered_ops o.id covered (take first k.received.applied) ≡ []) c.self.view_is c.first_uncovered-first.ensures.covered in
    let left : uncovered_ops o.id covered (take c.args.within all) ≡ [] = elim c.then-first-within.branch [
      | then-first-within-via-then-first-within w ↦ let l = w.if-first-within in none_within o.id o.clock all covered first c.args.within none (omega (arith, l))
      | then-first-within-via-else-first-within+then-first-ops w ↦
          let l = w.if-first-ops in
          let e = ap (λ xs. length xs) c.op_list-ops.ensures.applied in
          none_to_end o.id o.clock all covered first c.args.within none (omega (arith, l, e))
    ] in
    copies_end o.id o.clock all c.loop.copies.items c.args.clock.now covered c.args.within c.args.limit _ left c.loop.invariant.rest

pub loop-preserved : goal.loop-preserved
loop-preserved g c =
    let o = g.R.Op.Caused in
    let all = c.args.self.now.received.applied in
    let first = c.first_uncovered-first.result in
    let covered = c.loop.covered in
    let none : uncovered_ops o.id covered (take first all) ≡ [] = subst (λ (k : InboxState _ _ _ _). uncovered_ops o.id covered (take first k.received.applied) ≡ []) c.self.view_is c.first_uncovered-first.ensures.covered in
    let l = c.if-first-within.false in
    let inside = c.if-first-ops.false in
    let same = c.op_list-ops.ensures.applied in
    let present : slice_get all first ≡ Some c.in_ok-op.op = ap (λ xs. slice_get xs first) (sym same) ∙ slice_get-get_or c.op_list-ops.result.now first c.index-ops-first.result inside ∙ ap Some (sym ((c.in_ok-op.ensures {u = tt}) ∙ c.index-ops-first.is)) in
    let next : IsNextId covered (id_numbers o.id c.in_ok-op.op) = subst (λ (k : InboxState _ _ _ _). slice_get k.received.applied first ≡ Some c.in_ok-op.op → IsNextId covered (id_numbers o.id c.in_ok-op.op)) c.self.view_is (c.first_uncovered-first.ensures.next c.in_ok-op.op) present in
    let counted : IsRaised covered c.id-id.result.replica c.id-id.result.number c.raise.new.self = subst (λ n. IsRaised covered c.id-id.result.replica n c.raise.new.self) c.get.ensures.number (c.in_ok-raise.ensures {u = tt}).raised in
    let raised : IsRaised covered (o.id c.in_ok-op.op).replica (o.id c.in_ok-op.op).number c.raise.new.self = subst (λ (i : OpId). IsRaised covered i.replica i.number c.raise.new.self) c.id-id.ensures counted in
    record {
      count = let t = c.loop-test.true in omega (arith, t);
      rest = ap (λ (xs : List g.row.R-Op.Denot). xs ++ take (c.args.limit - (c.loop.counter + 1)) (uncovered_ops o.id c.raise.new.self (take c.args.within all))) (c.in_ok-push.ensures {u = tt}).items ∙ copies_next o.id o.clock all c.loop.copies.items c.args.clock.now covered c.raise.new.self first c.args.within c.args.limit c.loop.counter c.in_ok-op.op c.op_list-ops.ensures.lawful.causal l present none next raised c.loop-test.true c.loop.invariant.rest;
    }
