use Rattle.std.proofs.Common.{◌+◌, ◌++◌, take, subst, arith}
use Rattle.uid_projection.specs.Applied.{IsApplied}
use Rattle.uid_projection.proofs.ExhaustionLemmas.{applied_take, append_next, take_op, exists_of_test, uid_is}
use Rattle.uid_projection.proofs.exhaustion.uid_after.Goals as goal

pub loop-at-preserved : goal.loop-at-preserved
loop-at-preserved c =
    let ops = c.args.ops.now in
    let at = c.loop-at.at in
    let o = c.op.result.now in
    let n = c.args.folder.now in
    let next = take_op ops at c.index-ops-at.result o c.loop-at-test.true c.index-ops-at.is c.op.ensures.op in
    record {
      so_far = λ start list a m f is.
          let b = applied_take list ops (at + 1) a in
          uid_is start n list (take at ops) (take (at + 1) ops) o c.exists_after-present.result c.begins_line-starts.result c.args.first c.loop-at.uid c.uid_after_op-uid.result next f
          (exists_of_test n (list ++ take (at + 1) ops) c.exists_after-present.result (c.exists_after-present.ensures.set list m b.sound b.causal))
          (c.begins_line-starts.ensures list (subst IsApplied (append_next list (take at ops) (take (at + 1) ops) o next) b) m) (c.loop-at.invariant.so_far start list a m f is) c.uid_after_op-uid.ensures.uid;
      bound = let w = c.uid_after_op-uid.ensures.bound (4294967295 + at) c.loop-at.invariant.bound (omega arith) in omega (arith, w);
    }
