use Rattle.std.proofs.Common.{◌≡◌, ◌+◌, List, ◌++◌, ap, ◌∙◌, take, arith}
use Rattle.std.proofs.lemmas.List.{take_all}
use Rattle.crdt_ops.specs.declared.op.Op.{Op}
use Rattle.folder_state.specs.Contents.{IsMadeBy}
use Rattle.folder_state.specs.Tables.{contents_of}
use Rattle.uid_projection.specs.declared.first_numbers.Counters.{Counters}
use Rattle.uid_projection.specs.Applied.{IsApplied}
use Rattle.uid_projection.specs.Counting.{count_all}
use Rattle.uid_projection.specs.Incarnations.{begins_incarnation, k_of}
use Rattle.uid_projection.proofs.ExhaustionLemmas.{applied_take, take_op, exists_of_test}
use Rattle.uid_projection.proofs.LaterNumbers.{next_k_is}
use Rattle.uid_projection.proofs.LaterNumbers.{k_of_is}
use Rattle.uid_projection.proofs.numbers_after.k_of_after.Goals as goal

pub loop-at-preserved : goal.loop-at-preserved
loop-at-preserved c =
    let ops = c.args.ops.now in
    let at = c.loop-at.at in
    let o = c.op.result.now in
    let n = c.args.folder.now in
    let next = take_op ops at c.index-ops-at.result o c.loop-at-test.true c.index-ops-at.is c.op.ensures.op in
    let k_next : (start : Counters) (list : List Op) → IsApplied (list ++ ops) → IsMadeBy (contents_of c.args.value.now) list → c.args.next_k ≡ start.k + count_all begins_incarnation list → c.next_k_after_op-next.result ≡ start.k + count_all begins_incarnation (list ++ take (at + 1) ops) = λ start list a m is.
    next_k_is start list (take at ops) (take (at + 1) ops) o c.begins-begins_incarnation.result c.loop-at.next c.next_k_after_op-next.result next
    (c.begins-begins_incarnation.ensures list next (applied_take list ops (at + 1) a) m) (c.loop-at.invariant.next start list a m is) c.next_k_after_op-next.ensures.next
    in
    record {
      next = k_next;
      so_far = λ start list a m is own.
          let b = applied_take list ops (at + 1) a in
          k_of_is start n list (take at ops) (take (at + 1) ops) o c.exists_after-present.result c.loop-at.k c.next_k_after_op-next.result c.k_after_op-k.result next
          (exists_of_test n (list ++ take (at + 1) ops) c.exists_after-present.result (c.exists_after-present.ensures.set list m b.sound b.causal))
          (c.loop-at.invariant.so_far start list a m is own) (k_next start list a m is) c.k_after_op-k.ensures;
      bound = let w = c.next_k_after_op-next.ensures.bound in let v = c.loop-at.invariant.bound in omega (arith, w, v);
    }

pub returns : goal.returns
returns c = λ start list a m is own.
    let ops = c.args.ops.now in
    let stop = c.loop-at-test.false in
    let all : take c.loop-at.at ops ≡ ops = take_all c.loop-at.at ops (omega (arith, stop)) in
    c.loop-at.invariant.so_far start list a m is own ∙ ap (λ xs. k_of start c.args.folder.now (list ++ xs)) all
