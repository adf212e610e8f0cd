use Rattle.std.proofs.Common.{◌≡◌, ◌≤◌, ◌+◌, ◌++◌, take, sym, ap, ◌∙◌, arith}
use Rattle.std.proofs.lemmas.List.{take_all}
use Rattle.uid_projection.specs.Counting.{count_all}
use Rattle.uid_projection.specs.Incarnations.{begins_incarnation}
use Rattle.uid_projection.proofs.HistoryLemmas.{once}
use Rattle.uid_projection.proofs.ExhaustionLemmas.{applied_take, k_is, take_op}
use Rattle.uid_projection.proofs.exhaustion.k_after.Goals.{then-begins, else-begins}
use Rattle.uid_projection.proofs.exhaustion.k_after.Goals as goal

pub loop-at-preserved : goal.loop-at-preserved
loop-at-preserved c =
    let ops = c.args.ops.now in
    let at = c.loop-at.at in
    let o = c.op.result.now in
    let next = take_op ops at c.index-ops-at.result o c.loop-at-test.true c.index-ops-at.is c.op.ensures.op in
    let step : c.if-begins.k ≡ c.loop-at.k + once c.begins.result = elim c.if-begins.branch [
      | then-begins w ↦ w.k-is ∙ ap (λ b. c.loop-at.k + once b) (sym w.if-begins.true)
      | else-begins w ↦ w.k-is ∙ sym (omega arith) ∙ ap (λ b. c.loop-at.k + once b) (sym w.if-begins.false)
    ] in
    let most : c.if-begins.k ≤ c.loop-at.k + 1 = elim c.if-begins.branch [
      | then-begins w ↦ let e = w.k-is in omega (arith, e)
      | else-begins w ↦ let e = w.k-is in omega (arith, e)
    ] in
    let bound = c.loop-at.invariant.bound in
    record {
      so_far = λ start list a m is. k_is start list (take at ops) (take (at + 1) ops) o c.begins.result c.loop-at.k c.if-begins.k next
          (c.begins.ensures list next (applied_take list ops (at + 1) a) m) (c.loop-at.invariant.so_far start list a m is) step;
      bound = omega (arith, most, bound);
    }

pub returns : goal.returns
returns c = λ start list a m is.
    let ops = c.args.ops.now in
    let stop = c.loop-at-test.false in
    let all : take c.loop-at.at ops ≡ ops = take_all c.loop-at.at ops (omega (arith, stop)) in
    c.loop-at.invariant.so_far start list a m is ∙ ap (λ xs. start.k + count_all begins_incarnation (list ++ xs)) all
