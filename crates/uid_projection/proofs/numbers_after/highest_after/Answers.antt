use Rattle.std.proofs.Common.{◌+◌, ◌++◌, take, arith}
use Rattle.uid_projection.proofs.ExhaustionLemmas.{applied_take, take_op, exists_of_test}
use Rattle.uid_projection.proofs.LaterNumbers.{highest_is}
use Rattle.uid_projection.proofs.numbers_after.highest_after.Goals as goal

pub loop-at-preserved : goal.loop-at-preserved
loop-at-preserved c =
    let ops = c.args.ops.now in
    let at = c.loop-at.at in
    let o = c.op.result.now in
    let n = c.args.folder.now in
    let next = take_op ops at c.index-ops-at.result o c.loop-at-test.true c.index-ops-at.is c.op.ensures.op in
    record {
      so_far = λ list a m is.
          let b = applied_take list ops (at + 1) a in
          highest_is n list (take at ops) (take (at + 1) ops) o c.exists_after-present.result c.names_folder-is_named.result c.loop-at.highest c.highest_after_op-highest.result next
          (exists_of_test n (list ++ take (at + 1) ops) c.exists_after-present.result (c.exists_after-present.ensures.set list m b.sound b.causal))
          c.names_folder-is_named.ensures (c.loop-at.invariant.so_far list a m is) c.highest_after_op-highest.ensures.highest;
      bound = let w = c.highest_after_op-highest.ensures.bound (18446744073709551615 + at) c.loop-at.invariant.bound (omega arith) in omega (arith, w);
    }
