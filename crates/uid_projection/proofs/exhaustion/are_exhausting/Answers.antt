use Rattle.std.proofs.Common.{◌+◌, ◌++◌, inl, inr, take, sym, subst, ◌∙◌}
use Rattle.std.proofs.lemmas.Bool.{false≢true}
use Rattle.uid_projection.specs.Applied.{IsApplied}
use Rattle.uid_projection.specs.Exhaustion.{Exhausts, IsExhausted}
use Rattle.uid_projection.proofs.ExhaustionLemmas.{applied_take, append_next, exhausted_at, more_exhausted, none_exhausted, take_op}
use Rattle.uid_projection.proofs.exhaustion.are_exhausting.Goals as goal
use Rattle.uid_projection.proofs.exhaustion.are_exhausting.Goals.{then-lacks_uid-via-then-lacks_uid, then-lacks_uid-via-else-lacks_uid+then-lacks_k}

pub loop-at-init : goal.loop-at-init
loop-at-init c = λ list a t m x. none_exhausted c.args.start.now list x

pub returns-then-lacks_uid : goal.returns-then-lacks_uid
returns-then-lacks_uid c = λ list a t m.
    let ops = c.args.ops.now in
    let at = c.loop-at.at in
    let o = c.op-op.result.now in
    let next = take_op ops at c.index-ops-at.result o c.loop-at-test.true c.index-ops-at.is c.op-op.ensures.op in
    let through = applied_take list ops (at + 1) a in
    let applied = subst IsApplied (append_next list (take at ops) (take (at + 1) ops) o next) through in
    let lacks : IsExhausted c.args.start.now (list ++ take at ops) o = elim c.then-lacks_uid.branch [
      | then-lacks_uid-via-then-lacks_uid w ↦ inl ((c.lacks_uid.ensures list c.args.next_k applied t m).0 w.if-lacks_uid.true)
      | then-lacks_uid-via-else-lacks_uid+then-lacks_k w ↦ inr ((w.lacks_k.ensures c.args.start.now list next through m t.is_k).0 w.if-lacks_k.true)
    ] in
    (λ x. exhausted_at c.args.start.now list ops at o next lacks, λ x. cc)

pub loop-at-preserved : goal.loop-at-preserved
loop-at-preserved c = λ list a t m x.
    let ops = c.args.ops.now in
    let at = c.loop-at.at in
    let o = c.op-op.result.now in
    let next = take_op ops at c.index-ops-at.result o c.loop-at-test.true c.index-ops-at.is c.op-op.ensures.op in
    let through = applied_take list ops (at + 1) a in
    let applied = subst IsApplied (append_next list (take at ops) (take (at + 1) ops) o next) through in
    elim (more_exhausted c.args.start.now list (take at ops) o (subst (Exhausts c.args.start.now list) next x)) [
      | inl y ↦ c.loop-at.invariant list a t m y
      | inr y ↦ elim y [
        | inl w ↦ false≢true (sym c.if-lacks_uid.false ∙ (c.lacks_uid.ensures list c.args.next_k applied t m).1 w)
        | inr w ↦ false≢true (sym c.if-lacks_k.false ∙ (c.lacks_k.ensures c.args.start.now list next through m t.is_k).1 w)
      ]
    ]
